-- What stays the same from lane to lane, or goes up by one.
use Rattle.std.specs.Prelude.{◌≡◌, ℕ, ◌+◌, ◌*◌, ◌<◌, ℤ, pos, ◌+ℤ◌, List, ◌∷◌, Result, Ok, Bool, true, false}
use Rattle.aol_expr_tree.specs.declared.op.ExprOp.{ExprOp}
use Rattle.aol_expr_tree.specs.declared.value.Kind.{Kind}
use Rattle.aol_expr_tree.specs.Meaning.{applied}
use Rattle.aol_eval.specs.declared.lines.Line.{Line}
use Rattle.aol_eval.specs.declared.lines.Ranks.{Ranks}
use Rattle.aol_eval.specs.Places.{rank_on}

-- the lane's number where it moves, else 0
abbrev pub moved : Bool → ℕ → ℕ
moved true i = i
moved false i = 0

-- the number in a lane
abbrev pub number_on : Line → ℕ → ℤ
number_on line i = line.first +ℤ pos (moved line.moves i)

-- in each of the most lanes at once, what is computed is the number there
abbrev pub IsLine : (ℤ → Result ℤ Kind) → ℕ → Line → Type 0
IsLine f from line = (i : ℕ) → i < 128 → f (pos (from + i)) ≡ Ok (number_on line i)

-- in each of the most lanes at once, the operator at two numbers is the third
abbrev pub IsLineOf : ExprOp → Line → Line → Line → Type 0
IsLineOf op left right line = (i : ℕ) → i < 128 → applied op (number_on left i) (number_on right i) ≡ Ok (number_on line i)

-- the rank in a lane
abbrev pub rank_in_lane : Ranks → ℕ → ℕ
rank_in_lane ranks i = ranks.first + ranks.step * i

-- one more index, below this entry in so many lanes, leads to these ranks
abbrev pub LeadsTo : Ranks → Line → ℕ → ℕ → Ranks → Type 0
LeadsTo ranks line entry count next =
    (i : ℕ) → i < count → (rest : List ℕ) (more : List ℤ) → rank_on (entry ∷ rest) (rank_in_lane ranks i) (number_on line i ∷ more) ≡ rank_on rest (rank_in_lane next i) more
