use Rattle.std.proofs.Common.{◌≡◌, ◌+◌, ◌<◌, ◌∙◌, ◌∷◌, refl, sym, ℕ, ℤ, pos, Ok, Result, w64, FitsSigned}
use Rattle.std.proofs.lemmas.Int.{to_z-of_z}
use Rattle.aol_expr_tree.specs.declared.op.ExprOp.TheVariants.{Mul}
use Rattle.aol_expr_tree.specs.declared.value.Kind.{Kind}
use Rattle.aol_expr_tree.specs.Meaning.{applied, nth_number}
use Rattle.aol_eval.specs.Frames.{numbers_of}
use Rattle.aol_eval.specs.Lines.{rank_in_lane}
use Rattle.aol_eval.specs.Resolved.{plan_of, operation, run}
use Rattle.aol_eval.proofs.LineSteps.{if_some-map}
use Rattle.aol_eval.proofs.ProductSteps.{dotted-summed}
use Rattle.aol_eval.proofs.products.products_on.Goals as goal

pub returns : goal.returns
returns c =
    let term : ℤ → Result ℤ Kind = λ k. run c.args.nums.now c.args.at.now (k ∷ numbers_of c.args.vars.now) (operation Mul (plan_of c.args.left.now) (plan_of c.args.right.now)) in
    let left = c.in_ok-left.left in
    let right = c.in_ok-right.right in
    let fits : FitsSigned w64 c.args.sum = c.ranges.sum in
    let each : (i : ℕ) → i < c.args.count → term (pos (c.args.from + i)) ≡ applied Mul (nth_number left.nums.now (rank_in_lane left.ranks i)) (nth_number right.nums.now (rank_in_lane right.ranks i))
    = λ i below.
    let first : run c.args.nums.now c.args.at.now (pos (c.args.from + i) ∷ numbers_of c.args.vars.now) (plan_of c.args.left.now) ≡ Ok (nth_number left.nums.now (rank_in_lane left.ranks i)) = c.in_ok-left.ensures i below in
    let second : run c.args.nums.now c.args.at.now (pos (c.args.from + i) ∷ numbers_of c.args.vars.now) (plan_of c.args.right.now) ≡ Ok (nth_number right.nums.now (rank_in_lane right.ranks i)) = c.in_ok-right.ensures i below in
    rw (first, second) refl in
    if_some-map c.dot.result
    (λ total is. dotted-summed term left.nums.now right.nums.now left.ranks right.ranks c.args.from c.args.sum c.args.count (sym c.requires.sum) each ∙ is) (simp (to_z-of_z w64) at c.dot.ensures)
