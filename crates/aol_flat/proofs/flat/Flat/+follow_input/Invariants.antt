use Rattle.aol_flat.proofs.flat.Flat.+follow_input.Given as goal

abbrev pub decreases-follow_input : goal.decreases-follow_input
decreases-follow_input l = l.number
