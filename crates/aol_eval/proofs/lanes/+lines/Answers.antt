use Rattle.std.proofs.Common.{◌≡◌, ℤ, List, Result, ◌∙◌, ap, subst}
use Rattle.aol_expr_tree.specs.declared.value.Kind.{Kind}
use Rattle.aol_eval.specs.Lanes.{numbers_in}
use Rattle.aol_eval.specs.Lines.{IsLine}
use Rattle.aol_eval.specs.declared.lines.Line.{Line}
use Rattle.aol_eval.specs.Resolved.{Plan, plan_of, level_plan, operation, run}
use Rattle.aol_eval.specs.declared.step.Step.TheFolds.{fold_out-Step}
use Rattle.aol_eval.proofs.LineSteps.{if_some-map, line_of_parts}
use Rattle.aol_eval.proofs.lanes.+lines.Goals as goal

pub returns-in_ok-line_of-in-Bin-2 : goal.returns-in_ok-line_of-in-Bin-2
unfolding Rattle.aol_eval.specs.declared.step.Step.TheViews.out-Step denote.Hole.Carrier.out
returns-in_ok-line_of-in-Bin-2 t c =
    let left = plan_of c.in-Bin.left.value in
    let right = plan_of c.in-Bin.right.value in
    let plan : plan_of c.args.step.now ≡ operation c.in-Bin.op left right = ap plan_of c.in-Bin.is ∙ fold_out-Step Plan level_plan _ in
    let at : List ℤ → Plan → ℤ → Result ℤ Kind = λ nums p z. run nums c.args.at.now (numbers_in c.args.lanes.now z) p in
    let lines : List ℤ → Plan → Line → Type 0 = λ nums p line. IsLine (at nums p) c.args.from line in
    let first : (nums : List ℤ) → lines nums left c.in_ok-line_of-in-Bin.field-0 = λ nums. subst (λ s. lines nums (plan_of s) c.in_ok-line_of-in-Bin.field-0) c.deref.ensures (c.in_ok-line_of-in-Bin.ensures nums) in
    let second : (nums : List ℤ) → lines nums right c.in_ok-line_of-in-Bin-2.field-0 = λ nums. subst (λ s. lines nums (plan_of s) c.in_ok-line_of-in-Bin-2.field-0) c.deref-in-Bin.ensures (c.in_ok-line_of-in-Bin-2.ensures nums) in
    rw plan (if_some-map c.line_of_op.result
    (λ line is nums. line_of_parts (at nums left) (at nums right) c.args.from c.in-Bin.op c.in_ok-line_of-in-Bin.field-0 c.in_ok-line_of-in-Bin-2.field-0 line (first nums) (second nums) is) c.line_of_op.ensures)
