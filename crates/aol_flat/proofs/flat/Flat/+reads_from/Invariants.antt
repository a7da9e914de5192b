use Rattle.std.proofs.Common.{length}
use Rattle.aol_flat.proofs.flat.Flat.+reads_from.Given as goal

abbrev pub decreases-reads_from : goal.decreases-reads_from
decreases-reads_from l = length l.into.now
