use Rattle.std.proofs.Common.{◌≡◌, Contains, Some, map, length, sym, ap, ◌∙◌, subst, arith}
use Rattle.aol_scatter.specs.Cells.{cell}
use Rattle.aol_scatter.proofs.Memory.{length-merged}
use Rattle.aol_scatter.proofs.Places.{merged_values, merged_others}
use Rattle.aol_scatter.proofs.lending.Rest.settle.Goals as goal

pub invariant_of-self : goal.invariant_of-self
invariant_of-self g c = let joined = c.join.ensures in let inv = c.self.invariant in
    (joined.0 ∙ inv.0, ap length joined.2 ∙ length-merged c.self.inside.part.cells c.share.inside.part.cells ∙ inv.1, inv.2, inv.3, inv.4)

pub returns-clause-values : goal.returns-clause-values
returns-clause-values g c =
    let cs = c.self.inside.part.cells in let ds = c.share.inside.part.cells in let ks = c.share.inside.cells in
    let long = ap (λ v. v.name.len) c.share.view_is ∙ ap (λ n. n.len) c.requires ∙ sym (ap (λ v. v.name.len) c.self.view_is) ∙ sym c.self.invariant.1 in
    subst (λ v. map (λ k. cell c.join.new.self.cells k) v.cells ≡ map Some v.values) c.share.view_is
    (ap (λ l. map (λ k. cell l k) ks) c.join.ensures.2 ∙ merged_values cs ds ks (omega (arith, long)) c.share.invariant.2)

pub returns-clause-others : goal.returns-clause-others
returns-clause-others g c =
    let cs = c.self.inside.part.cells in let ds = c.share.inside.part.cells in let ks = c.share.inside.cells in
    let long = ap (λ v. v.name.len) c.share.view_is ∙ ap (λ n. n.len) c.requires ∙ sym (ap (λ v. v.name.len) c.self.view_is) ∙ sym c.self.invariant.1 in
    λ k out. ap (λ l. cell l k) c.join.ensures.2 ∙ merged_others cs ds ks (omega (arith, long)) c.share.invariant.3 k (subst (λ v. ¬ Contains v.cells k) (sym c.share.view_is) out)
    ∙ ap (λ v. cell v.cells k) c.self.view_is

pub returns-clause-len : goal.returns-clause-len
returns-clause-len g c = ap length c.join.ensures.2 ∙ length-merged c.self.inside.part.cells c.share.inside.part.cells ∙ ap (λ v. length v.cells) c.self.view_is
