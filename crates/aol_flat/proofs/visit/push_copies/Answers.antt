use Rattle.std.proofs.Common.{◌≡◌, ◌+◌, take, Ok, Err, refl, sym, ◌∙◌, ap, subst, arith}
use Rattle.std.proofs.lemmas.List.{take_all}
use Rattle.std.proofs.lemmas.Result.{err_from_is_err_and}
use Rattle.aol_flat.specs.Walked.{GoesOverCopies}
use Rattle.aol_flat.proofs.Visiting.{Answer, copies_more, copies_stop}
use Rattle.aol_flat.proofs.visit.push_copies.Goals as goal

pub returns-in_err-push_copy : goal.returns-in_err-push_copy
returns-in_err-push_copy c =
    let p = err_from_is_err_and c.from_residual.result c.from_residual.ensures.1 in
    let P : Answer → Type 0 = λ r. GoesOverCopies c.args.reshapes.now c.args.spot.now c.args.walk.now c.push_copy.new.walk r in
    subst P (sym (p.1 ∙ ap Err p.2))
    (copies_stop c.args.reshapes.now c.args.spot.now (c.loop-number.number + 1) c.args.walk.now c.push_copy.new.walk (Err c.in_err-push_copy.field-0.0) c.in_err-push_copy.field-0.0
    (copies_more c.args.reshapes.now c.args.spot.now c.loop-number.number c.index-reshapes-number.result c.args.walk.now c.loop-number.walk c.push_copy.new.walk (Ok tt) (Err c.in_err-push_copy.field-0.0) tt
    (omega arith) c.index-reshapes-number.is c.loop-number.invariant refl c.in_err-push_copy.ensures)
    refl)

pub loop-number-preserved : goal.loop-number-preserved
loop-number-preserved c =
    copies_more c.args.reshapes.now c.args.spot.now c.loop-number.number c.index-reshapes-number.result c.args.walk.now c.loop-number.walk c.push_copy.new.walk (Ok tt) (Ok tt) tt
    (omega arith) c.index-reshapes-number.is c.loop-number.invariant refl c.in_ok-push_copy.ensures

pub returns : goal.returns
returns c =
    let all : take c.loop-number.number c.args.reshapes.now ≡ c.args.reshapes.now = take_all c.loop-number.number c.args.reshapes.now (omega arith) in
    subst (λ rs. GoesOverCopies rs c.args.spot.now c.args.walk.now c.loop-number.walk (Ok tt)) all c.loop-number.invariant
