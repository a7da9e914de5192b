use Rattle.std.proofs.Common.{◌+◌, ◌∷◌, [], ◌++◌, take, refl, sym, ◌∙◌, ap, subst, arith}
use Rattle.std.proofs.lemmas.List.{take_more, take_all}
use Rattle.aol_level.specs.Made.{AreMade, elementary_among}
use Rattle.aol_level.proofs.Making.{among_both, made_next, none_made}
use Rattle.aol_level.proofs.ready.ready_tasks.Goals as goal

pub loop-task-init : goal.loop-task-init
loop-task-init c = record { number = refl; made = subst (AreMade []) (sym c.in_ok-all.ensures.items) none_made }

pub loop-task-preserved : goal.loop-task-preserved
loop-task-preserved c =
    let ts = take c.loop-task.task-index c.args.tasks.now in
    let t = c.task-item.result in
    let next = take_more c.args.tasks.now c.loop-task.task-index t (omega arith) ∙ ap (λ u. ts ++ u ∷ []) (sym c.task-item.is) in
    record {
      number = c.in_ok-number.ensures ∙ (ap (λ n. n + elementary_among (t ∷ [])) c.loop-task.invariant.number ∙ (sym (among_both ts (t ∷ [])) ∙ ap elementary_among (sym next)));
      made = subst (λ us. AreMade us c.push.new.all.items) (sym next)
          (subst (AreMade (ts ++ t ∷ [])) (sym c.in_ok-push.ensures) (made_next ts c.loop-task.all.items t c.in_ok-one.one c.loop-task.number c.loop-task.invariant.made c.loop-task.invariant.number c.in_ok-one.ensures));
    }

pub returns : goal.returns
returns c = subst (λ ts. AreMade ts c.loop-task.all.items) (take_all c.loop-task.task-index c.args.tasks.now (omega arith)) c.loop-task.invariant.made
