-- What a step computes in many lanes at once: the variable of one sum runs over consecutive numbers.
use Rattle.std.specs.Prelude.{◌≡◌, ℕ, ◌+◌, ◌<◌, ℤ, pos, ◌+ℤ◌, List, [], ◌∷◌, length, slice_index_or, Result, Ok}
use Rattle.aol_expr_tree.specs.declared.op.ExprOp.{ExprOp}
use Rattle.aol_expr_tree.specs.declared.value.Kind.{Kind}
use Rattle.aol_expr_tree.specs.Meaning.{◌>>=◌, applied, checked}
use Rattle.aol_eval.specs.declared.lanes.Lanes.{Lanes}
use Rattle.aol_eval.specs.declared.lanes.Lanes.TheOpen.{Lanes-F}
use Rattle.aol_eval.specs.declared.lanes.Lanes.TheFolds.{fold-Lanes}
use Rattle.aol_eval.specs.Frames.{numbers_of}

-- one level, with the lanes around it already seen as values
abbrev pub level_lanes : Lanes-F (ℤ → List ℤ) → ℤ → List ℤ
level_lanes (Lanes-F.Own outer) z = z ∷ numbers_of outer.now
level_lanes (Lanes-F.Inside w lanes) z = w ∷ lanes.now z

-- the values of the variables, the innermost first, in the lane whose own variable has this value
abbrev pub numbers_in : Lanes → ℤ → List ℤ
numbers_in = fold-Lanes (ℤ → List ℤ) level_lanes

-- in each lane, from the first on, what is computed is the number there
abbrev pub Gives : (ℤ → Result ℤ Kind) → ℕ → List ℤ → Type 0
Gives f from zs = (i : ℕ) → i < length zs → f (pos (from + i)) ≡ Ok (slice_index_or zs i (pos 0))

-- in each lane the operator at two numbers is the third
abbrev pub IsApplied : ExprOp → List ℤ → List ℤ → List ℤ → Type 0
IsApplied op left right zs = (i : ℕ) → i < length zs → applied op (slice_index_or left i (pos 0)) (slice_index_or right i (pos 0)) ≡ Ok (slice_index_or zs i (pos 0))

-- each number of a list added in order
abbrev pub added_up : ℤ → List ℤ → Result ℤ Kind
added_up sum [] = Ok sum
added_up sum (z ∷ zs) = checked (sum +ℤ z) >>= (λ more. added_up more zs)
