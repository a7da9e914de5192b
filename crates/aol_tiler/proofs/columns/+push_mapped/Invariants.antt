use Rattle.std.proofs.Common.{length}
use Rattle.aol_tiler.proofs.columns.+push_mapped.Given as goal

abbrev pub decreases-push_mapped : goal.decreases-push_mapped
decreases-push_mapped l = length l.vectors.now
