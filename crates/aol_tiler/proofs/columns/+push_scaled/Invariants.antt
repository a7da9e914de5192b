use Rattle.std.proofs.Common.{length}
use Rattle.aol_tiler.proofs.columns.+push_scaled.Given as goal

abbrev pub decreases-push_scaled : goal.decreases-push_scaled
decreases-push_scaled l = length l.columns.now
