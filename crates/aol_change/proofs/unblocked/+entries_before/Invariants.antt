use Rattle.aol_change.proofs.unblocked.+entries_before.Given as goal

abbrev pub decreases-entries_before : goal.decreases-entries_before
decreases-entries_before l = l.node
