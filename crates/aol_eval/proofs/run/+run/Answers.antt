use Rattle.std.proofs.Common.{rules, ◌≡◌, ◌+◌, length, ap, ℤ, pos, Ok, Err, ◌∷◌, arith, sym, ◌∙◌, w64, FitsSigned, Result}
use Rattle.std.proofs.lemmas.Int.{to_z-of_z}
use Rattle.std.proofs.lemmas.Result.{err_from_is_err_and}
use Rattle.aol_expr_tree.specs.declared.value.Kind.{Kind}
use Rattle.aol_expr_tree.specs.Meaning.{summed}
use Rattle.aol_eval.proofs.LaneSteps.{added-summed}
use Rattle.aol_eval.specs.Frames.{numbers_of}
use Rattle.aol_eval.specs.Resolved.{plan_of, run}
use Rattle.aol_eval.proofs.Evaluation.{sum-more, sum-fault, fault-below}
use Rattle.aol_eval.proofs.run.+run.Goals as goal

pub sum_one_by_one-returns-in_err-term_at : goal.sum_one_by_one-returns-in_err-term_at
sum_one_by_one-returns-in_err-term_at t c =
    let term : ℤ → Result ℤ Kind = λ k. run c.args.nums.now c.args.at.now (k ∷ numbers_of c.args.vars.now) (plan_of c.args.term.now) in
    let kind = c.in_err-term_at.field-0.0 in
    let here : term (pos c.loop-k.k) ≡ Err kind = sym c.term_at.ensures ∙ c.in_err-term_at.was in
    let p = err_from_is_err_and c.from_residual.result c.from_residual.ensures.1 in
    rw (p.1, p.2) (sym (fault-below term (c.loop-k.k + 1) (c.args.from + c.args.count) kind (omega arith) (sum-fault term c.loop-k.k _ kind c.loop-k.invariant here)))

pub sum_one_by_one-returns-in_err-sum : goal.sum_one_by_one-returns-in_err-sum
sum_one_by_one-returns-in_err-sum t c =
    let term : ℤ → Result ℤ Kind = λ k. run c.args.nums.now c.args.at.now (k ∷ numbers_of c.args.vars.now) (plan_of c.args.term.now) in
    let kind = c.in_err-sum.field-0.0 in
    let z = c.in_ok-term_at.field-0 in
    let fits : FitsSigned w64 c.in_ok-term_at.field-0 = search rules in
    let here : term (pos c.loop-k.k) ≡ Ok z = sym c.term_at.ensures ∙ c.in_ok-term_at.was in
    let added = simp (to_z-of_z w64) at c.apply.ensures in
    let p = err_from_is_err_and c.from_residual-in_err-sum.result c.from_residual-in_err-sum.ensures.1 in
    rw (p.1, p.2) (sym (fault-below term (c.loop-k.k + 1) (c.args.from + c.args.count) kind (omega arith)
    (sum-more term c.loop-k.k _ z (Err kind) c.loop-k.invariant here (sym c.in_err-sum.was ∙ added))))

pub sum_one_by_one-loop-k-preserved : goal.sum_one_by_one-loop-k-preserved
sum_one_by_one-loop-k-preserved t c =
    let term : ℤ → Result ℤ Kind = λ k. run c.args.nums.now c.args.at.now (k ∷ numbers_of c.args.vars.now) (plan_of c.args.term.now) in
    let z = c.in_ok-term_at.field-0 in
    let fits : FitsSigned w64 c.in_ok-term_at.field-0 = search rules in
    let fits_sum : FitsSigned w64 c.in_ok-sum.sum = search rules in
    let here : term (pos c.loop-k.k) ≡ Ok z = sym c.term_at.ensures ∙ c.in_ok-term_at.was in
    let added = simp (to_z-of_z w64) at c.apply.ensures in
    rw (to_z-of_z w64 c.in_ok-sum.sum fits_sum) (sum-more term c.loop-k.k _ z (Ok c.in_ok-sum.sum) c.loop-k.invariant here (sym c.in_ok-sum.was ∙ added))

pub sum-returns-in_err-sum : goal.sum-returns-in_err-sum
sum-returns-in_err-sum t c =
    let term : ℤ → Result ℤ Kind = λ k. run c.args.nums.now c.args.at.now (k ∷ numbers_of c.args.vars.now) (plan_of c.args.term.now) in
    let kind = c.in_err-sum.field-0.0 in
    let next = c.blocks-2.from + c.min-count.result in
    let here : summed term next ≡ Err kind = sym c.sum_on.ensures ∙ c.in_err-sum.was in
    let p = err_from_is_err_and c.from_residual.result c.from_residual.ensures.1 in
    rw (p.1, p.2) (sym (fault-below term next c.args.terms kind (omega arith) here))

pub sum_on-returns-then-fill_terms : goal.sum_on-returns-then-fill_terms
sum_on-returns-then-fill_terms t c =
    let term : ℤ → Result ℤ Kind = λ k. run c.args.nums.now c.args.at.now (k ∷ numbers_of c.args.vars.now) (plan_of c.args.term.now) in
    let fits : FitsSigned w64 c.args.sum = c.ranges.sum in
    let added = simp (to_z-of_z w64) at c.add_up.ensures in
    let long : length c.fill_terms.new.out ≡ c.args.count = first_of (omega arith, search rules) in
    added ∙ added-summed term c.fill_terms.new.out c.args.from c.args.sum (sym c.requires.sum) c.if-fill_terms.ensures ∙ ap (λ n. summed term (c.args.from + n)) long
