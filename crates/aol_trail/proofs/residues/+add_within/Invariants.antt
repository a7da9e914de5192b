use Rattle.std.proofs.Common.{length}
use Rattle.aol_trail.proofs.residues.+add_within.Given as goal

abbrev pub decreases-add_within : goal.decreases-add_within
decreases-add_within l = length l.moduli.now
