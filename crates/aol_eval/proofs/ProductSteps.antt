-- Sums of products, term by term.
use Rattle.std.proofs.Common.{◌≡◌, ℕ, zero, suc, ◌+◌, ◌<◌, ℤ, pos, List, Result, Ok, arith, refl, add-zero, add-suc, add-one}
use Rattle.aol_expr_tree.specs.declared.op.ExprOp.TheVariants.{Mul}
use Rattle.aol_expr_tree.specs.declared.value.Kind.{Kind}
use Rattle.aol_expr_tree.specs.Meaning.{applied, nth_number, summed}
use Rattle.aol_eval.specs.declared.lines.Ranks.{Ranks}
use Rattle.aol_eval.specs.Lines.{rank_in_lane}
use Rattle.aol_eval.specs.Products.{dotted, with_product}
use Rattle.aol_eval.proofs.Evaluation.{then_same}

-- one more product
pub dotted-more : (xs ys : List ℤ) (r q : Ranks) (sum s x y t : ℤ) (n : ℕ) → dotted xs r ys q sum n ≡ Ok s → x ≡ nth_number xs (rank_in_lane r n) → y ≡ nth_number ys (rank_in_lane q n)
    → with_product s x y ≡ Ok t → dotted xs r ys q sum (n + 1) ≡ Ok t
dotted-more xs ys r q sum s x y t n so_far left right more = rw (add-one, so_far, ← left, ← right) more

-- terms that are products of elements
pub dotted-summed : (f : ℤ → Result ℤ Kind) (xs ys : List ℤ) (r q : Ranks) (from : ℕ) (sum : ℤ) (n : ℕ) → summed f from ≡ Ok sum
    → ((i : ℕ) → i < n → f (pos (from + i)) ≡ applied Mul (nth_number xs (rank_in_lane r i)) (nth_number ys (rank_in_lane q i)))
    → summed f (from + n) ≡ dotted xs r ys q sum n
dotted-summed f xs ys r q from sum zero so_far each = rw add-zero so_far
dotted-summed f xs ys r q from sum (suc n) so_far each =
    let before = dotted-summed f xs ys r q from sum n so_far (λ i below. each i (omega arith)) in
    rw (add-suc, before) (then_same (dotted xs r ys q sum n) _ _ (λ s. rw (each n (omega arith)) refl))
