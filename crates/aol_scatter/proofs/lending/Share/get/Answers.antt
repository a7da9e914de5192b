use Rattle.std.proofs.Common.{◌<◌, length, get_or, sym, ap, ◌∙◌, subst}
use Rattle.aol_scatter.specs.Cells.{cell, IsHeld}
use Rattle.aol_scatter.proofs.Places.{value_get, length-values}
use Rattle.aol_scatter.proofs.lending.Share.get.Goals as goal

pub get-requires : goal.get-requires
get-requires g c =
    let j = c.args.j in let lt = subst (λ v. j < length v.cells) (sym c.self.view_is) c.requires in
    (sym c.self.invariant.0, subst (λ l. IsHeld c.self.inside.part.cells (get_or l j 0)) (sym c.as_slice-cells.ensures) (c.self.invariant.2 j 0 lt))

pub returns-clause-value : goal.returns-clause-value
returns-clause-value g c =
    let cs = c.self.inside.part.cells in let ks = c.self.inside.cells in let j = c.args.j in let r = c.get.result.now in
    let lt = subst (λ v. j < length v.cells) (sym c.self.view_is) c.requires in
    sym (value_get cs ks j r r c.self.invariant.2 lt (ap (λ l. cell cs (get_or l j 0)) (sym c.as_slice-cells.ensures) ∙ c.get.ensures)) ∙ ap (λ v. get_or v.values j r) c.self.view_is

pub returns-clause-as_many : goal.returns-clause-as_many
returns-clause-as_many g c = sym (ap (λ v. length v.values) c.self.view_is) ∙ length-values c.self.inside.part.cells c.self.inside.cells c.self.invariant.2 ∙ ap (λ v. length v.cells) c.self.view_is
