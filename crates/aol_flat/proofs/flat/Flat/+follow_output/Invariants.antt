use Rattle.aol_flat.proofs.flat.Flat.+follow_output.Given as goal

abbrev pub decreases-follow_output : goal.decreases-follow_output
decreases-follow_output l = l.number
