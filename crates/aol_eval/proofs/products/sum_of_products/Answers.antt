use Rattle.std.proofs.Common.{◌≡◌, ◌∙◌, ap}
use Rattle.aol_expr_tree.specs.declared.op.ExprOp.TheVariants.{Mul}
use Rattle.aol_eval.specs.declared.step.Step.TheFolds.{fold_out-Step}
use Rattle.aol_eval.specs.Resolved.{Plan, plan_of, level_plan, operation}
use Rattle.aol_eval.proofs.products.sum_of_products.Goals as goal

pub returns-in-Mul : goal.returns-in-Mul
unfolding Rattle.aol_eval.specs.declared.step.Step.TheViews.out-Step denote.Hole.Carrier.out
returns-in-Mul c =
    let plan : plan_of c.args.term.now ≡ operation c.in-Bin.op (plan_of c.in-Bin.left.value) (plan_of c.in-Bin.right.value) = ap plan_of c.in-Bin.is ∙ fold_out-Step Plan level_plan _ in
    let product : plan_of c.args.term.now ≡ operation Mul (plan_of c.deref.result.now) (plan_of c.deref-in-Mul.result.now)
    = plan ∙ rw (c.in-Mul.is, c.deref.ensures, c.deref-in-Mul.ensures) (λ i. operation Mul (plan_of c.in-Bin.left.value) (plan_of c.in-Bin.right.value)) in
    rw product c.products_on.ensures
