use Rattle.std.proofs.Common.{Some, length, sym, ap, ◌∙◌, subst}
use Rattle.std.proofs.lemmas.List.{length-replicate}
use Rattle.aol_scatter.specs.Cells.{IsWhole, values_held}
use Rattle.aol_scatter.proofs.Places.{filled_whole, filled_values}
use Rattle.aol_scatter.proofs.lending.Field.filled.Goals as goal

pub invariant_of-result : goal.invariant_of-result
invariant_of-result g c =
    let made = c.in-Some.ensures in let n = c.args.len in let v = c.args.value in
    (c.fill.ensures.0 ∙ made.0, ap length c.fill.ensures.1 ∙ length-replicate n (Some v), made.3, made.4, made.5, subst (λ cs. IsWhole cs) (sym c.fill.ensures.1) (filled_whole n v))

pub returns : goal.returns
returns g c = ap (λ cs. values_held cs) c.fill.ensures.1 ∙ filled_values c.args.len c.args.value
