-- Reading an element of a port's pattern index by index.
use Rattle.std.specs.Prelude.{ℕ, ◌+◌, ◌*◌, ◌≤◌, ℤ, pos, negsuc, List, [], ◌∷◌, nat_lt, Option, Some, None, Result, Ok, Err, if◌then◌else◌}
use Rattle.aol_expr_tree.specs.declared.value.Kind.{Kind}
use Rattle.aol_expr_tree.specs.declared.value.Kind.TheVariants.{Index}
use Rattle.std.specs.List.{AllByRecursion}
use Rattle.aol_shape.specs.Shape.{IsEntry, max_points, size}
use Rattle.aol_eval.specs.declared.place.Place.{Place}
use Rattle.aol_eval.specs.declared.place.Place.TheVariants.{Inside, Outside}
use Rattle.aol_expr_tree.specs.Meaning.{nth_number}

-- the rank of the indices behind a rank so far, where each is in its range
abbrev pub rank_on : List ℕ → ℕ → List ℤ → Option ℕ
rank_on [] so_far [] = Some so_far
rank_on [] so_far (z ∷ zs) = None
rank_on (n ∷ shape) so_far [] = None
rank_on (n ∷ shape) so_far (pos i ∷ zs) = if nat_lt i n then rank_on shape (so_far * n + i) zs else None
rank_on (n ∷ shape) so_far (negsuc i ∷ zs) = None

-- the rank of the indices, where there is a shape and they are inside it
abbrev pub rank_in : Option (List ℕ) → List ℤ → Option ℕ
rank_in None at = None
rank_in (Some shape) at = rank_on shape 0 at

-- the rank of a place with these indices more
abbrev pub rank_from : Place → List ℤ → Option ℕ
rank_from (Inside so_far shape) at = rank_on shape.now so_far at
rank_from Outside at = None

-- the place is that of a shape, so that ranks stay below the most points
abbrev pub IsPlace : Place → Type 0
IsPlace (Inside so_far shape) = AllByRecursion IsEntry shape.now × ((so_far + 1) * size shape.now ≤ max_points)
IsPlace Outside = Unit {0}

-- the number at a rank
abbrev pub number_at : List ℤ → Option ℕ → Result ℤ Kind
number_at nums None = Err Index
number_at nums (Some rank) = Ok (nth_number nums rank)
