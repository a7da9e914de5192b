use Rattle.std.proofs.Common.{length}
use Rattle.aol_trail.proofs.residues.+total.Given as goal

abbrev pub decreases-total : goal.decreases-total
decreases-total l = length l.place.now
