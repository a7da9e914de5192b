use Rattle.aol_flat.proofs.flat.Flat.+way_of_input.Given as goal

abbrev pub decreases-way_of_input : goal.decreases-way_of_input
decreases-way_of_input l = l.number
