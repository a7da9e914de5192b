use Rattle.std.proofs.Common.{◌<◌, length, below_more, refl, arith}
use Rattle.aol_equiv.proofs.FirstLost.{kept_here, first_here}
use Rattle.aol_equiv.proofs.compare.first_lost.Goals as goal

pub returns-then-not-is_kept : goal.returns-then-not-is_kept
returns-then-not-is_kept c =
    let lt : c.loop-number.number < length c.args.taken.now = omega arith in
    let lt' : c.loop-number.number < length c.args.before.now = omega arith in
    first_here c.args.sides.now c.args.taken.now c.args.before.now c.loop-number.number _ _ c.must_end-required.result lt lt' c.must_end-required.ensures c.is_kept.result c.if-not-is_kept.true c.is_kept.ensures
    c.loop-number.invariant

pub loop-number-preserved : goal.loop-number-preserved
loop-number-preserved c =
    let lt : c.loop-number.number < length c.args.taken.now = omega arith in
    let lt' : c.loop-number.number < length c.args.before.now = omega arith in
    below_more _ _ c.loop-number.invariant
    (kept_here c.args.sides.now c.args.taken.now c.args.before.now c.loop-number.number _ _ c.must_end-required.result lt lt' c.must_end-required.ensures (c.if-not-is_kept.ensures.0 refl))
