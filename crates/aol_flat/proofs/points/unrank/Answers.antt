use Rattle.std.proofs.Common.{arith}
use Rattle.aol_flat.proofs.Unranking.{one_more}
use Rattle.aol_flat.proofs.points.unrank.Goals as goal

pub loop-k-preserved : goal.loop-k-preserved
loop-k-preserved c = (one_more _ _ _ c.loop-k.k c.loop-k.after c.loop-k.x c.loop-k-test.true (omega arith) c.loop-k.invariant).next
