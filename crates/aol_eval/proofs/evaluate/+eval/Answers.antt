use Rattle.std.proofs.Common.{rules, ◌≡◌, ◌+◌, ℤ, pos, Ok, Err, ◌∷◌, arith, sym, ◌∙◌, w64, FitsSigned, Result}
use Rattle.std.proofs.lemmas.Int.{to_z-of_z}
use Rattle.std.proofs.lemmas.Result.{err_from_is_err_and}
use Rattle.aol_expr_tree.specs.declared.value.Kind.{Kind}
use Rattle.aol_eval.specs.Inputs.{given_of}
use Rattle.aol_expr_tree.specs.Meaning.{value}
use Rattle.aol_expr_tree.specs.Node.{tree_of}
use Rattle.aol_eval.specs.Vars.{vars_of}
use Rattle.aol_eval.proofs.Evaluation.{sum-more, sum-fault, fault-below}
use Rattle.aol_eval.proofs.evaluate.+eval.Goals as goal

pub sum_of-returns-in_err-term_at : goal.sum_of-returns-in_err-term_at
sum_of-returns-in_err-term_at t c =
    let term : ℤ → Result ℤ Kind = λ k. value (given_of c.args.inputs.now) ((c.args.name.now, k) ∷ vars_of c.args.vars.now) (tree_of c.args.term.now) in
    let kind = c.in_err-term_at.field-0.0 in
    let here : term (pos c.loop-k.k) ≡ Err kind = sym c.term_at.ensures ∙ c.in_err-term_at.was in
    let p = err_from_is_err_and c.from_residual.result c.from_residual.ensures.1 in
    rw (p.1, p.2) (sym (fault-below term (c.loop-k.k + 1) c.args.terms kind (omega arith) (sum-fault term c.loop-k.k _ kind c.loop-k.invariant here)))

pub sum_of-returns-in_err-sum : goal.sum_of-returns-in_err-sum
sum_of-returns-in_err-sum t c =
    let term : ℤ → Result ℤ Kind = λ k. value (given_of c.args.inputs.now) ((c.args.name.now, k) ∷ vars_of c.args.vars.now) (tree_of c.args.term.now) in
    let kind = c.in_err-sum.field-0.0 in
    let z = c.in_ok-term_at.field-0 in
    let fits : FitsSigned w64 c.in_ok-term_at.field-0 = search rules in
    let here : term (pos c.loop-k.k) ≡ Ok z = sym c.term_at.ensures ∙ c.in_ok-term_at.was in
    let added = simp (to_z-of_z w64) at c.apply.ensures in
    let p = err_from_is_err_and c.from_residual-in_err-sum.result c.from_residual-in_err-sum.ensures.1 in
    rw (p.1, p.2) (sym (fault-below term (c.loop-k.k + 1) c.args.terms kind (omega arith)
    (sum-more term c.loop-k.k _ z (Err kind) c.loop-k.invariant here (sym c.in_err-sum.was ∙ added))))

pub sum_of-loop-k-preserved : goal.sum_of-loop-k-preserved
sum_of-loop-k-preserved t c =
    let term : ℤ → Result ℤ Kind = λ k. value (given_of c.args.inputs.now) ((c.args.name.now, k) ∷ vars_of c.args.vars.now) (tree_of c.args.term.now) in
    let z = c.in_ok-term_at.field-0 in
    let fits : FitsSigned w64 c.in_ok-term_at.field-0 = search rules in
    let fits_sum : FitsSigned w64 c.in_ok-sum.sum = search rules in
    let here : term (pos c.loop-k.k) ≡ Ok z = sym c.term_at.ensures ∙ c.in_ok-term_at.was in
    let added = simp (to_z-of_z w64) at c.apply.ensures in
    rw (to_z-of_z w64 c.in_ok-sum.sum fits_sum) (sum-more term c.loop-k.k _ z (Ok c.in_ok-sum.sum) c.loop-k.invariant here (sym c.in_ok-sum.was ∙ added))
