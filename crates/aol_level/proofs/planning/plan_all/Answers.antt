use Rattle.std.proofs.Common.{◌≡◌, ◌<◌, length, slice_index, All, sym, subst}
use Rattle.std.proofs.lemmas.List.Elements.{All-push, All-drop}
use Rattle.aol_flat.specs.Instance.{instances}
use Rattle.aol_level.specs.Parts.{AreInstances, IsPlan}
use Rattle.aol_level.proofs.Lists.{more_parts}
use Rattle.aol_level.proofs.planning.plan_all.Goals as goal

pub loop-first-preserved : goal.loop-first-preserved
loop-first-preserved c =
    let f = c.args.flat.now in
    let workers = c.args.placed.now.of_instance in
    let plans = c.loop-first.plans.items in
    let plan = c.in_ok-plan.plan in
    let left = c.loop-first.left.now in
    let front = c.split_at.result.0.now in
    let back = c.split_at.result.1.now in
    let mine = c.in_ok-plan.ensures.plan workers (subst (All (λ j. slice_index workers j ≡ c.worker_of-worker.result)) (sym c.split_at.ensures.front) c.count_of.ensures.same) in
    record {
      within = subst (AreInstances f) (sym c.split_at.ensures.back) (All-drop (λ j. j < length (instances f.model)) c.count_of.result left c.loop-first.invariant.within);
      listing = c.plan_of.ensures.listing;
      hands = c.plan_of.ensures.hands;
      all = more_parts (λ p. p.part.instances.now) plans c.push.new.plans.items plan left front back c.args.at_once.now c.count_of.result c.in_ok-push.ensures c.in_ok-plan.ensures.instances c.split_at.ensures.front c.split_at.ensures.back
          c.loop-first.invariant.all;
      each = subst (All (IsPlan f workers)) (sym c.in_ok-push.ensures) (All-push (IsPlan f workers) plans plan c.loop-first.invariant.each mine);
    }
