use Rattle.std.proofs.Common.{Some, map, length, sym, ap, ◌∙◌, subst, All}
use Rattle.aol_scatter.specs.Cells.{cell, IsHeld, HoldsOnly, picked, values_at}
use Rattle.aol_scatter.proofs.Memory.{length-without, length-picked}
use Rattle.aol_scatter.proofs.Places.{length-values, picked_holds, picked_only, picked_values}
use Rattle.aol_scatter.proofs.lending.Rest.claim.Goals as goal

pub invariant_of-self : goal.invariant_of-self
invariant_of-self g c = let made = c.split-part.ensures in let inv = c.self.invariant in
    (made.0 ∙ inv.0, ap length made.2 ∙ length-without 0 c.as_slice.result.now c.self.inside.part.cells ∙ inv.1, inv.2, inv.3, inv.4)

pub invariant_of-result : goal.invariant_of-result
invariant_of-result g c =
    let made = c.split-part.ensures in let cs = c.self.inside.part.cells in let ks = c.args.cells in
    let same = made.5 ∙ ap (λ ns. picked ns cs) c.as_slice.ensures in
    let free = subst (λ v. All (λ k. IsHeld v.cells k) ks) (sym c.self.view_is) c.requires.unclaimed in
    (made.3 ∙ c.self.invariant.0, c.requires.distinct, subst (λ ds. All (λ k. IsHeld ds k) ks) (sym same) (picked_holds cs ks free), subst (λ ds. HoldsOnly ds ks) (sym same) (picked_only cs ks))

pub returns-clause-name : goal.returns-clause-name
returns-clause-name g c =
    let made = c.split-part.ensures in let name = ap (λ v. v.name) c.self.view_is in
    let long = ap length made.5 ∙ length-picked 0 c.as_slice.result.now c.self.inside.part.cells ∙ c.self.invariant.1 in
    (ap (λ n. record { at = c.self.inside.base.ptr; len = n }) long ∙ name, name)

pub returns-clause-values : goal.returns-clause-values
returns-clause-values g c =
    let cs = c.self.inside.part.cells in let ks = c.args.cells in
    let same = c.split-part.ensures.5 ∙ ap (λ ns. picked ns cs) c.as_slice.ensures in
    let free = subst (λ v. All (λ k. IsHeld v.cells k) ks) (sym c.self.view_is) c.requires.unclaimed in
    ap (λ ds. map Some (values_at ds ks)) same ∙ picked_values cs ks free ∙ ap (λ v. map (λ k. cell v.cells k) ks) c.self.view_is

pub returns-clause-as_many : goal.returns-clause-as_many
returns-clause-as_many g c = length-values c.split-part.result.cells c.args.cells (invariant_of-result g c).2
