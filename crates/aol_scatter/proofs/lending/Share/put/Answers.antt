use Rattle.std.proofs.Common.{◌<◌, Some, length, get_or, set, sym, ap, ◌∙◌, subst, All}
use mathlib.Core.Logic.{inr}
use Rattle.aol_scatter.specs.Cells.{IsHeld, HoldsOnly, values_at}
use Rattle.aol_scatter.proofs.Memory.{held_within}
use Rattle.aol_scatter.proofs.Places.{length-values, value_set, holds_set, only_set}
use Rattle.aol_scatter.proofs.lending.Share.put.Goals as goal

pub put-requires : goal.put-requires
put-requires g c =
    let cs = c.self.inside.part.cells in let j = c.args.j in let lt = subst (λ v. j < length v.cells) (sym c.self.view_is) c.requires in
    let held = subst (λ l. IsHeld cs (get_or l j 0)) (sym c.as_slice-cells.ensures) (c.self.invariant.2 j 0 lt) in
    (sym c.self.invariant.0, held_within cs _ held.0 held.1, inr held)

pub invariant_of-self : goal.invariant_of-self
invariant_of-self g c =
    let cs = c.self.inside.part.cells in let ks = c.self.inside.cells in let j = c.args.j in let v = c.args.value in let inv = c.self.invariant in
    let lt = subst (λ w. j < length w.cells) (sym c.self.view_is) c.requires in let held = inv.2 j 0 lt in
    let same = c.put.ensures.2 ∙ ap (λ l. set cs (get_or l j 0) (Some v)) c.as_slice-cells.ensures in
    (c.put.ensures.0 ∙ inv.0, inv.1, subst (λ ds. All (λ m. IsHeld ds m) ks) (sym same) (holds_set cs ks _ v (held_within cs _ held.0 held.1) inv.2), subst (λ ds. HoldsOnly ds ks) (sym same) (only_set cs ks j v lt inv.3))

pub returns-clause-values : goal.returns-clause-values
returns-clause-values g c =
    let cs = c.self.inside.part.cells in let ks = c.self.inside.cells in let j = c.args.j in let v = c.args.value in let inv = c.self.invariant in
    let lt = subst (λ w. j < length w.cells) (sym c.self.view_is) c.requires in
    let same = c.put.ensures.2 ∙ ap (λ l. set cs (get_or l j 0) (Some v)) c.as_slice-cells.ensures in
    ap (λ ds. values_at ds ks) same ∙ value_set cs ks j v inv.1 inv.2 lt ∙ ap (λ w. set w.values j v) c.self.view_is

pub returns-clause-as_many : goal.returns-clause-as_many
returns-clause-as_many g c = length-values c.put.new.self.cells c.self.inside.cells (invariant_of-self g c).2
