use Rattle.std.proofs.Common.{ℕ, ◌<◌, sym, ap, ◌∙◌, subst, arith}
use Rattle.aol_scatter.specs.Cells.{IsHeld}
use Rattle.aol_scatter.proofs.Places.{map_held, length-held}
use Rattle.aol_scatter.proofs.lending.Rest.finish.Goals as goal

pub invariant_of-result : goal.invariant_of-result
invariant_of-result g c = let inv = c.self.invariant in let cs = c.self.inside.part.cells in let each = subst (λ v. (k : ℕ) → k < v.name.len → IsHeld v.cells k) (sym c.self.view_is) c.requires in
    (inv.0, inv.1, inv.2, inv.3, inv.4, λ k lt. each k (omega (arith, lt, inv.1)))

pub returns-clause-cells : goal.returns-clause-cells
returns-clause-cells g c = let cs = c.self.inside.part.cells in let each = subst (λ v. (k : ℕ) → k < v.name.len → IsHeld v.cells k) (sym c.self.view_is) c.requires in
    map_held cs (λ k lt. each k (omega (arith, lt, c.self.invariant.1))) ∙ ap (λ v. v.cells) c.self.view_is

pub returns-clause-len : goal.returns-clause-len
returns-clause-len g c = let cs = c.self.inside.part.cells in let each = subst (λ v. (k : ℕ) → k < v.name.len → IsHeld v.cells k) (sym c.self.view_is) c.requires in
    length-held cs (λ k lt. each k (omega (arith, lt, c.self.invariant.1))) ∙ c.self.invariant.1 ∙ ap (λ v. v.name.len) c.self.view_is
