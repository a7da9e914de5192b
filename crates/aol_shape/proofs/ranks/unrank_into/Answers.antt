use Rattle.std.proofs.Common.{length, ap, arith}
use Rattle.aol_shape.proofs.Steps.{unranks-more}
use Rattle.aol_shape.proofs.ranks.unrank_into.Goals as goal

pub loop-k-preserved : goal.loop-k-preserved
loop-k-preserved c = unranks-more _ _ _ c.loop-k.k c.loop-k.behind c.loop-k.x c.loop-k-test.true (omega (arith, c.loop-k.auto.point, c.requires.same, ap length c.as_slice-entries.ensures.entries)) c.loop-k.invariant
