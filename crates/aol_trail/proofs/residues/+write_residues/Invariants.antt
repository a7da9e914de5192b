use Rattle.std.proofs.Common.{length}
use Rattle.aol_trail.proofs.residues.+write_residues.Given as goal

abbrev pub decreases-write_residues : goal.decreases-write_residues
decreases-write_residues l = length l.array.now
