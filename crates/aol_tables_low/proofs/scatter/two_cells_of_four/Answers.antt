use Rattle.std.proofs.Common.{sym, ap, ◌∙◌, subst, arith}
use Rattle.aol_scatter.specs.Cells.{is_listed, IsHeld}
use Rattle.aol_scatter.proofs.Settling.{begun_held, claimed_held, settled_held}
use Rattle.aol_tables_low.proofs.scatter.two_cells_of_four.Goals as goal

pub finish-field-requires : goal.finish-field-requires
finish-field-requires g c =
    let r = c.begin-rest.result.cells in let share = c.put-2.new.self in let listed_are = c.put-2.ensures.same.1 ∙ c.put.ensures.same.1 ∙ c.claim-share.ensures.cells in
    let long = ap (λ v. v.len) (c.settle-listed.ensures.name ∙ c.claim-share.ensures.name.1) ∙ c.begin-rest.ensures.len in λ k lt.
    settled_held c.claim-share.new.self.cells c.settle-listed.new.self.cells share.cells share.values c.settle-listed.ensures.values c.settle-listed.ensures.others k (λ out.
    subst (λ cs. IsHeld cs k) (sym c.claim-share.ensures.rest) (claimed_held r _ k (ap (λ l. is_listed k l) (sym listed_are) ∙ out) (begun_held c.in_ok-field.field r c.begin-rest.ensures.cells k (omega (arith, lt, long)))))
