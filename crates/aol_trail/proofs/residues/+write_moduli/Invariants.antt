use Rattle.std.proofs.Common.{length}
use Rattle.aol_trail.proofs.residues.+write_moduli.Given as goal

abbrev pub decreases-write_moduli : goal.decreases-write_moduli
decreases-write_moduli l = length l.array.now
