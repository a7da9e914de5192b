use Rattle.aol_flat.proofs.flat.Flat.+way_of_output.Given as goal

abbrev pub decreases-way_of_output : goal.decreases-way_of_output
decreases-way_of_output l = l.number
