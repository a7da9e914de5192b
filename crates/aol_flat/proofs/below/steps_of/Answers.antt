use Rattle.std.proofs.Common.{rules, ◌≡◌, ℕ, ◌+◌, List, ◌++◌, ◌∷◌, [], ◌<◌, length, get_or, sym, ◌∙◌, ap, subst, arith}
use Rattle.aol_flat.specs.Below.{AreStepsUnder}
use Rattle.aol_flat.proofs.Among.{among_get}
use Rattle.aol_flat.proofs.Stepping.{AreStepped, stepped_none, stepped_more, stepped_all}
use Rattle.aol_flat.proofs.below.steps_of.Goals as goal

pub loop-task-init : goal.loop-task-init
loop-task-init c = stepped_none c.args.from.model.now c.new-counts.result c.new-steps.result c.new-counts.ensures c.new-steps.ensures

pub loop-task-preserved : goal.loop-task-preserved
loop-task-preserved c =
    let m = c.args.from.model.now in
    let i = c.loop-task.task-index in
    let task = c.task-item.result in
    let many : length c.as_slice-task-items.result.now ≡ length m.tasks = ap length c.as_slice-task-items.ensures in
    let lt : i < length m.tasks = omega (arith, many, c.loop-task-test.true) in
    let is : task ≡ get_or m.tasks i task = c.task-item.is ∙ ap (λ ts. get_or ts i task) c.as_slice-task-items.ensures in
    let own : List ℕ = c.in_ok-own.field-0.own in
    let count : ℕ = c.in_ok-own.field-0.count in
    let P : List ℕ → Type 0 = λ counts. AreStepsUnder m task counts own count in
    let Q : List ℕ → Type 0 = λ counts. AreStepped m (i + 1) counts (c.loop-task.steps ++ own ∷ []) in
    let counts_are : c.push.new.self ≡ c.loop-task.counts ++ count ∷ [] = search rules in
    let steps_are : c.push-in-loop-task.new.self ≡ c.loop-task.steps ++ own ∷ [] = search rules in
    let R : List (List ℕ) → Type 0 = λ steps. AreStepped m (i + 1) c.push.new.self steps in
    subst R (sym steps_are) (subst Q (sym counts_are)
    (stepped_more m c.args.from.earlier i task (among_get m.tasks i task lt is) c.loop-task.counts c.loop-task.steps own count c.loop-task.invariant
    (subst P c.as_slice.ensures c.in_ok-own.ensures)))

pub returns : goal.returns
returns c =
    let m = c.args.from.model.now in
    let i = c.loop-task.task-index in
    let many : length c.as_slice-task-items.result.now ≡ length m.tasks = ap length c.as_slice-task-items.ensures in
    let all : i ≡ length m.tasks = omega (arith, many, c.loop-task-test.false, c.loop-task.auto.task-index-end) in
    stepped_all m i c.loop-task.counts c.loop-task.steps all c.loop-task.invariant
