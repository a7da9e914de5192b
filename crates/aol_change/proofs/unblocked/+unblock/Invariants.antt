use Rattle.std.proofs.Common.{length}
use Rattle.aol_change.proofs.unblocked.+unblock.Given as goal

abbrev pub decreases-unblock : goal.decreases-unblock
decreases-unblock l = length l.space.now
