use Rattle.std.proofs.Common.{arith}
use Rattle.aol_io.proofs.Appended.{appends_next, next_within}
use Rattle.aol_io.proofs.writing.write_all.Goals as goal

pub loop-at-preserved : goal.loop-at-preserved
loop-at-preserved g c = record {
  within = next_within _ _ _ c.loop-at.invariant.within c.in_ok-at.ensures.bytes.0;
  wrote = appends_next _ _ _ _ _ _ c.loop-at.invariant.wrote c.in_ok-at.ensures.bytes.2;
  later = omega (arith, c.loop-at.invariant.later, c.in_ok-at.ensures.cause.later);
}
