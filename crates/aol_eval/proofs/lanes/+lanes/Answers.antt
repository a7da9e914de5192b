use Rattle.std.proofs.Common.{rules, ◌≡◌, ℤ, Result, ◌∙◌, ap}
use Rattle.aol_expr_tree.specs.declared.value.Kind.{Kind}
use Rattle.aol_eval.specs.Lanes.{numbers_in}
use Rattle.aol_eval.specs.Resolved.{Plan, plan_of, level_plan, choice, run}
use Rattle.aol_eval.specs.declared.step.Step.TheFolds.{fold_out-Step}
use Rattle.aol_eval.proofs.LaneSteps.{on_true-map, gives-then, gives-otherwise}
use Rattle.aol_eval.proofs.lanes.+lanes.Goals as goal

pub fill-returns-then-none_zero : goal.fill-returns-then-none_zero
unfolding Rattle.aol_eval.specs.declared.step.Step.TheViews.out-Step denote.Hole.Carrier.out
fill-returns-then-none_zero t c =
    let at : Plan → ℤ → Result ℤ Kind = λ p z. run c.args.nums.now c.args.at.now (numbers_in c.args.lanes.now z) p in
    let f = at (plan_of c.in-If.condition.value) in
    let g = at (plan_of c.in-If.then.value) in
    let h = at (plan_of c.in-If.otherwise.value) in
    let plan : plan_of c.args.step.now ≡ choice (plan_of c.in-If.condition.value) (plan_of c.in-If.then.value) (plan_of c.in-If.otherwise.value) = ap plan_of c.in-If.is ∙ fold_out-Step Plan level_plan _ in
    rw plan (on_true-map c.fill-then-none_zero.result (gives-then f g h c.args.from c.fill-in-If.new.out c.fill-then-none_zero.new.out (search rules) (search rules) (search rules)) (search rules))

pub fill-returns-then-all_zero : goal.fill-returns-then-all_zero
unfolding Rattle.aol_eval.specs.declared.step.Step.TheViews.out-Step denote.Hole.Carrier.out
fill-returns-then-all_zero t c =
    let at : Plan → ℤ → Result ℤ Kind = λ p z. run c.args.nums.now c.args.at.now (numbers_in c.args.lanes.now z) p in
    let f = at (plan_of c.in-If.condition.value) in
    let g = at (plan_of c.in-If.then.value) in
    let h = at (plan_of c.in-If.otherwise.value) in
    let plan : plan_of c.args.step.now ≡ choice (plan_of c.in-If.condition.value) (plan_of c.in-If.then.value) (plan_of c.in-If.otherwise.value) = ap plan_of c.in-If.is ∙ fold_out-Step Plan level_plan _ in
    rw plan (on_true-map c.fill-then-all_zero.result (gives-otherwise f g h c.args.from c.fill-in-If.new.out c.fill-then-all_zero.new.out (search rules) (search rules) (search rules)) (search rules))
