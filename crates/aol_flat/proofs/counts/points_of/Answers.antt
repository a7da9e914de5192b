use Rattle.std.proofs.Common.{arith}
use Rattle.aol_flat.proofs.Counting.{points_more}
use Rattle.aol_flat.proofs.counts.points_of.Goals as goal

pub loop-entry-preserved : goal.loop-entry-preserved
loop-entry-preserved c =
    points_more c.args.entries.now c.loop-entry.entry-index c.loop-entry.points c.saturating_mul-points.result c.from.result (omega arith) c.loop-entry.invariant c.from.ensures c.saturating_mul-points.ensures
