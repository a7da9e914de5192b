use Rattle.std.proofs.Common.{Result, Err, sym, ◌∙◌, ap, subst}
use Rattle.std.proofs.lemmas.Result.{err_from_is_err_and}
use Rattle.aol_flat.specs.declared.refused.FlatRefused.{FlatRefused}
use Rattle.aol_flat.specs.declared.walk.Walk.{Walk}
use Rattle.aol_flat.specs.Tables.{EndsWith}
use Rattle.aol_flat.proofs.Laying.{nothing_passed}
use Rattle.aol_flat.proofs.flat.walk_of.Goals as goal

pub returns-in_err-visit_all : goal.returns-in_err-visit_all
returns-in_err-visit_all c =
    let m = c.args.from.model.now in
    let w = c.new-walk in
    let p = err_from_is_err_and c.from_residual.result c.from_residual.ensures.1 in
    let P : Result Walk FlatRefused → Type 0 = λ r. EndsWith m r in
    subst P (sym (p.1 ∙ ap Err p.2))
    (c.in_err-visit_all.ensures _ _ (nothing_passed m w.result w.ensures.counts.0 w.ensures.counts.1 w.ensures.counts.2 w.ensures.instances w.ensures.leaves))

pub returns : goal.returns
returns c =
    let w = c.new-walk in
    c.in_ok-visit_all.ensures _ _ (nothing_passed c.args.from.model.now w.result w.ensures.counts.0 w.ensures.counts.1 w.ensures.counts.2 w.ensures.instances w.ensures.leaves)
