use Rattle.std.proofs.Common.{◌<◌, Some, set, ap, ◌∙◌, arith}
use Rattle.aol_scatter.proofs.Places.{filled_next}
use Rattle.aol_scatter.proofs.lending.fill.Goals as goal

pub loop-k-preserved : goal.loop-k-preserved
loop-k-preserved g c =
    let inv = c.loop-k.invariant in let n = c.args.count in let k = c.loop-k.k in let lt : k < n = omega (arith, c.loop-k-test.true) in
    (c.put.ensures.0 ∙ inv.0, c.put.ensures.1 ∙ inv.1, omega (arith, lt), c.put.ensures.2 ∙ ap (λ l. set l k (Some c.args.value)) inv.3 ∙ filled_next k n c.args.value lt)
