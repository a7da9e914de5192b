use Rattle.aol_lower.proofs.element.+ranked.Given as goal

abbrev pub decreases-ranked : goal.decreases-ranked
decreases-ranked l = l.count
