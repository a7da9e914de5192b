use Rattle.std.proofs.Common.{rules, ◌≡◌, ◌+◌, ◌∙◌, [], ap, subst, sym, arith, Some, w64, FitsSigned, true, false}
use Rattle.std.proofs.lemmas.Int.{to_z-of_z}
use Rattle.aol_expr_tree.specs.Meaning.{is_zero}
use Rattle.aol_eval.specs.Frames.{numbers_of}
use Rattle.aol_eval.specs.Programs.{Makes}
use Rattle.aol_eval.specs.Resolved.{Plan, plan_of, plans_of, level_plan, operation, choice}
use Rattle.aol_eval.specs.declared.program.Operand.TheVariants.{Number}
use Rattle.aol_eval.specs.declared.step.Step.TheFolds.{fold_out-Step}
use Rattle.aol_eval.proofs.LineSteps.{if_some-map}
use Rattle.aol_eval.proofs.Programs.{makes-operation, makes-choice, makes-otherwise, makes-taken, makes-term, makes-sum, makes-index, makes-element, makes-scalar, plans-left, none-left, no-entry, of_plan}
use Rattle.aol_eval.proofs.compile.+compile.Goals as goal

pub operand_of-returns-in_ok-right-in-Bin : goal.operand_of-returns-in_ok-right-in-Bin
unfolding Rattle.aol_eval.specs.declared.step.Step.TheViews.out-Step denote.Hole.Carrier.out
operand_of-returns-in_ok-right-in-Bin t c =
    let vars = numbers_of c.args.vars.now in
    let left = plan_of c.in-Bin.left.value in
    let right = plan_of c.in-Bin.right.value in
    let plan : plan_of c.args.step.now ≡ operation c.in-Bin.op left right = ap plan_of c.in-Bin.is ∙ fold_out-Step Plan level_plan _ in
    let one : Makes c.args.operations.now c.operand_of.new.operations (of_plan vars left) c.in_ok-left-in-Bin.left = subst (λ s. Makes c.args.operations.now c.operand_of.new.operations (of_plan vars (plan_of s)) c.in_ok-left-in-Bin.left) c.deref.ensures c.in_ok-left-in-Bin.ensures in
    let two : Makes c.operand_of.new.operations c.operand_of-in-Bin.new.operations (of_plan vars right) c.in_ok-right-in-Bin.right = subst (λ s. Makes c.operand_of.new.operations c.operand_of-in-Bin.new.operations (of_plan vars (plan_of s)) c.in_ok-right-in-Bin.right) c.deref-in-Bin.ensures c.in_ok-right-in-Bin.ensures in
    rw plan (if_some-map c.apply_to.result (λ s three. makes-operation vars _ _ _ _ c.in-Bin.op left right _ _ s one two three) c.apply_to.ensures)

pub operand_of-returns-in_ok-otherwise-in-If : goal.operand_of-returns-in_ok-otherwise-in-If
unfolding Rattle.aol_eval.specs.declared.step.Step.TheViews.out-Step denote.Hole.Carrier.out
operand_of-returns-in_ok-otherwise-in-If t c =
    let vars = numbers_of c.args.vars.now in
    let condition = plan_of c.in-If.condition.value in
    let then = plan_of c.in-If.then.value in
    let otherwise = plan_of c.in-If.otherwise.value in
    let plan : plan_of c.args.step.now ≡ choice condition then otherwise = ap plan_of c.in-If.is ∙ fold_out-Step Plan level_plan _ in
    let one : Makes c.args.operations.now c.operand_of-in-If.new.operations (of_plan vars condition) c.in_ok-condition-in-If.condition = subst (λ s. Makes c.args.operations.now c.operand_of-in-If.new.operations (of_plan vars (plan_of s)) c.in_ok-condition-in-If.condition) c.deref-in-If.ensures c.in_ok-condition-in-If.ensures in
    let two : Makes c.operand_of-in-If.new.operations c.operand_of-in-If-2.new.operations (of_plan vars then) c.in_ok-then-in-If.then = subst (λ s. Makes c.operand_of-in-If.new.operations c.operand_of-in-If-2.new.operations (of_plan vars (plan_of s)) c.in_ok-then-in-If.then) c.deref-in-If-2.ensures c.in_ok-then-in-If.ensures in
    let three : Makes c.operand_of-in-If-2.new.operations c.operand_of-in-If-3.new.operations (of_plan vars otherwise) c.in_ok-otherwise-in-If.otherwise = subst (λ s. Makes c.operand_of-in-If-2.new.operations c.operand_of-in-If-3.new.operations (of_plan vars (plan_of s)) c.in_ok-otherwise-in-If.otherwise) c.deref-in-If-3.ensures c.in_ok-otherwise-in-If.ensures in
    rw plan (if_some-map c.push.result (λ s pushed. makes-choice vars _ _ _ _ _ condition then otherwise _ _ _ s one two three pushed) c.push.ensures)

pub sum_operand-loop-k-preserved : goal.sum_operand-loop-k-preserved
sum_operand-loop-k-preserved t c =
    makes-term (numbers_of c.args.vars.now) _ _ _ _ (plan_of c.args.term.now) c.loop-k.k _ _ _ c.loop-k.invariant c.in_ok-z.ensures c.in_ok-sum.ensures

pub read_operand-returns-then-is_empty-2 : goal.read_operand-returns-then-is_empty-2
read_operand-returns-then-is_empty-2 t c =
    let none : c.args.indices.now ≡ [] = search (rules, c.if-is_empty-2.ensures) in
    let shape : c.args.shape.now ≡ Some c.as_slice-entries.result.now = c.in-Some.is ∙ ap Some (sym c.as_slice-entries.ensures.entries) in
    makes-scalar (numbers_of c.args.vars.now) _ c.args.shape.now c.as_slice-entries.result.now c.args.start (plans_of c.args.indices.now) shape (no-entry c.as_slice-entries.result.now c.if-is_empty.ensures) (ap plans_of none)

pub read_operand-returns-then-k-len : goal.read_operand-returns-then-k-len
read_operand-returns-then-k-len t c =
    let steps = c.as_slice-index-items.result.now in
    let left = rw c.as_slice-index-items.ensures at (plans-left steps c.loop-k.k c.index-item.result c.loop-k-test.true c.index-item.is) in
    let all = rw c.as_slice-index-items.ensures at (none-left steps (c.loop-k.k + 1) (search (rules, arith))) in
    if_some-map c.element_to.result (λ s three. makes-element (numbers_of c.args.vars.now) _ _ _ _ c.args.shape.now c.args.start (plans_of c.args.indices.now) c.in_ok-entry.entry.now c.loop-k.entries.now c.in_ok-entry.rest.now (plan_of c.index-item.result) _ _ _ _ s
    c.loop-k.invariant c.in_ok-entry.ensures.cases.0 (no-entry c.in_ok-entry.rest.now c.if-is_empty-3.ensures) left all c.in_ok-index.ensures three) c.element_to.ensures

pub read_operand-loop-k-preserved : goal.read_operand-loop-k-preserved
read_operand-loop-k-preserved t c =
    let left = rw c.as_slice-index-items.ensures at (plans-left c.as_slice-index-items.result.now c.loop-k.k c.index-item.result c.loop-k-test.true c.index-item.is) in
    makes-index (numbers_of c.args.vars.now) _ _ _ _ c.args.shape.now c.args.start (plans_of c.args.indices.now) c.in_ok-entry.entry.now c.loop-k.entries.now c.in_ok-entry.rest.now (plan_of c.index-item.result) _ _ _ _ _
    c.loop-k.invariant c.in_ok-entry.ensures.cases.0 left c.in_ok-index.ensures c.in_ok-rank.ensures

pub sum_operand-returns : goal.sum_operand-returns
sum_operand-returns t c =
    makes-sum (numbers_of c.args.vars.now) _ _ (plan_of c.args.term.now) c.loop-k.k c.args.terms _ (omega (arith, c.loop-k-test.false, c.loop-k.auto.k-end)) c.loop-k.invariant

pub operand_of-returns-then-equals_zero : goal.operand_of-returns-then-equals_zero
unfolding Rattle.aol_eval.specs.declared.step.Step.TheViews.out-Step denote.Hole.Carrier.out
operand_of-returns-then-equals_zero t c =
    let vars = numbers_of c.args.vars.now in
    let condition = plan_of c.in-If.condition.value in
    let then = plan_of c.in-If.then.value in
    let otherwise = plan_of c.in-If.otherwise.value in
    let plan : plan_of c.args.step.now ≡ choice condition then otherwise = ap plan_of c.in-If.is ∙ fold_out-Step Plan level_plan _ in
    let made : Makes c.args.operations.now c.operand_of-in-If.new.operations (of_plan vars condition) c.in_ok-condition-in-If.condition = subst (λ s. Makes c.args.operations.now c.operand_of-in-If.new.operations (of_plan vars (plan_of s)) c.in_ok-condition-in-If.condition) c.deref-in-If.ensures c.in_ok-condition-in-If.ensures in
    let one : Makes c.args.operations.now c.operand_of-in-If.new.operations (of_plan vars condition) (Number c.in-Number.known) = subst (λ o. Makes c.args.operations.now c.operand_of-in-If.new.operations (of_plan vars condition) o) c.in-Number.is made in
    let fits : FitsSigned w64 c.in-Number.known = search rules in
    let zero : is_zero c.in-Number.known ≡ true = rw (to_z-of_z w64 c.in-Number.known fits) at (sym c.if-equals_zero.ensures) in
    rw plan (if_some-map c.operand_of-then-equals_zero.result
    (λ s two. makes-otherwise vars _ _ _ condition then otherwise _ s one zero (subst (λ e. Makes c.operand_of-in-If.new.operations c.operand_of-then-equals_zero.new.operations (of_plan vars (plan_of e)) s) c.deref-then-equals_zero.ensures two))
    c.operand_of-then-equals_zero.ensures)

pub operand_of-returns-else-equals_zero : goal.operand_of-returns-else-equals_zero
unfolding Rattle.aol_eval.specs.declared.step.Step.TheViews.out-Step denote.Hole.Carrier.out
operand_of-returns-else-equals_zero t c =
    let vars = numbers_of c.args.vars.now in
    let condition = plan_of c.in-If.condition.value in
    let then = plan_of c.in-If.then.value in
    let otherwise = plan_of c.in-If.otherwise.value in
    let plan : plan_of c.args.step.now ≡ choice condition then otherwise = ap plan_of c.in-If.is ∙ fold_out-Step Plan level_plan _ in
    let made : Makes c.args.operations.now c.operand_of-in-If.new.operations (of_plan vars condition) c.in_ok-condition-in-If.condition = subst (λ s. Makes c.args.operations.now c.operand_of-in-If.new.operations (of_plan vars (plan_of s)) c.in_ok-condition-in-If.condition) c.deref-in-If.ensures c.in_ok-condition-in-If.ensures in
    let one : Makes c.args.operations.now c.operand_of-in-If.new.operations (of_plan vars condition) (Number c.in-Number.known) = subst (λ o. Makes c.args.operations.now c.operand_of-in-If.new.operations (of_plan vars condition) o) c.in-Number.is made in
    let fits : FitsSigned w64 c.in-Number.known = search rules in
    let zero : is_zero c.in-Number.known ≡ false = rw (to_z-of_z w64 c.in-Number.known fits) at (sym c.if-equals_zero.ensures) in
    rw plan (if_some-map c.operand_of-else-equals_zero.result
    (λ s two. makes-taken vars _ _ _ condition then otherwise _ s one zero (subst (λ e. Makes c.operand_of-in-If.new.operations c.operand_of-else-equals_zero.new.operations (of_plan vars (plan_of e)) s) c.deref-else-equals_zero.ensures two))
    c.operand_of-else-equals_zero.ensures)
