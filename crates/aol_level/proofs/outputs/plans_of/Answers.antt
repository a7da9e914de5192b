use Rattle.std.proofs.Common.{◌∙◌, ◌++◌, ◌∷◌, [], take, sym, ap, subst, arith}
use Rattle.std.proofs.lemmas.List.{take_more}
use Rattle.aol_level.specs.Puts.{ArePlans}
use Rattle.aol_level.proofs.Putting.{plans_next}
use Rattle.aol_level.proofs.outputs.plans_of.Goals as goal

pub loop-out-preserved : goal.loop-out-preserved
loop-out-preserved c =
    let outs = take_more c.args.outs.now c.loop-out.out-index c.out-item.result (omega arith) ∙ ap (λ o. take c.loop-out.out-index c.args.outs.now ++ o ∷ []) (sym c.out-item.is) in
    subst (λ os. ArePlans c.args.ins.now os c.push_plan.new.plans.items) (sym outs)
    (subst (λ ps. ArePlans c.args.ins.now (take c.loop-out.out-index c.args.outs.now ++ c.out-item.result ∷ []) ps) (sym c.in_ok-push_plan.ensures)
    (plans_next c.args.ins.now (take c.loop-out.out-index c.args.outs.now) c.loop-out.plans.items c.out-item.result c.in_ok-plan.plan c.loop-out.invariant c.in_ok-plan.ensures))
