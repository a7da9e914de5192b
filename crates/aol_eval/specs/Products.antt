-- Products of elements added in order.
use Rattle.std.specs.Prelude.{ℕ, zero, suc, ℤ, List, Result, Ok}
use Rattle.aol_expr_tree.specs.declared.op.ExprOp.TheVariants.{Add, Mul}
use Rattle.aol_expr_tree.specs.declared.value.Kind.{Kind}
use Rattle.aol_expr_tree.specs.Meaning.{◌>>=◌, applied, nth_number}
use Rattle.aol_eval.specs.declared.lines.Ranks.{Ranks}
use Rattle.aol_eval.specs.Lines.{rank_in_lane}

-- the sum with one more product
abbrev pub with_product : ℤ → ℤ → ℤ → Result ℤ Kind
with_product sum x y = applied Mul x y >>= (λ z. applied Add sum z)

-- the sum with the products of the elements in the first lanes
abbrev pub dotted : List ℤ → Ranks → List ℤ → Ranks → ℤ → ℕ → Result ℤ Kind
dotted xs r ys q sum zero = Ok sum
dotted xs r ys q sum (suc n) = dotted xs r ys q sum n >>= (λ s. with_product s (nth_number xs (rank_in_lane r n)) (nth_number ys (rank_in_lane q n)))
