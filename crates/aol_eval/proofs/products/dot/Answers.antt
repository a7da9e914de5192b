use Rattle.std.proofs.Common.{rules, w64, FitsSigned}
use Rattle.std.proofs.lemmas.Int.{to_z-of_z}
use Rattle.aol_eval.proofs.ProductSteps.{dotted-more}
use Rattle.aol_eval.proofs.products.dot.Goals as goal

pub loop-k-preserved : goal.loop-k-preserved
loop-k-preserved c =
    let fits_left : FitsSigned w64 c.in_ok-number.field-0 = search rules in
    let fits_right : FitsSigned w64 c.in_ok-number-2.field-0 = search rules in
    let fits : FitsSigned w64 c.in_ok-total.total = search rules in
    let more = simp (to_z-of_z w64) at c.in_ok-total.ensures in
    rw (to_z-of_z w64 c.in_ok-total.total fits)
    (dotted-more c.args.left.nums.now c.args.right.nums.now c.args.left.ranks c.args.right.ranks _ _ _ _ _ c.loop-k.k c.loop-k.invariant c.in_ok-number.ensures c.in_ok-number-2.ensures more)
