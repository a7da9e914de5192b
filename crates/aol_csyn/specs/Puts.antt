-- What a program's statements put into its arrays.
use Rattle.std.specs.Prelude.{◌≡◌, ℕ, zero, suc, ◌⊎◌, ℤ, pos, negsuc, ◌+ℤ◌, List, [], ◌∷◌, ◌++◌, length, slice_get, Option, Some, None, if◌then◌else◌}
use Rattle.aol_csyn.specs.Tree.{Stmt, set_var, put_v, put_f, if_else, for_each, Stmts, no_stmts, stmt_and, Step}
use Rattle.aol_csyn.specs.Meaning.{State, value, is_zero, with_var, turn_count, run, run_all, Arrays, step_start, step_run}

-- a place in V or in F
pub data Cell : Type 0 where
  of_v : ℕ → Cell
  of_f : ℕ → Cell

-- the place that an index names
abbrev pub cell_at : (ℕ → Cell) → Option ℤ → List Cell
cell_at array (Some (pos k)) = array k ∷ []
cell_at array (Some (negsuc k)) = []
cell_at array None = []

-- what is put from a state on, where there is one
abbrev pub from_state : (State → List Cell) → Option State → List Cell
from_state puts (Some s) = puts s
from_state puts None = []

-- what so many turns put
abbrev pub turn_puts : ℕ → ℕ → ℤ → (State → Option State) → (State → List Cell) → State → List Cell
turn_puts zero k z body puts s = []
turn_puts (suc n) k z body puts s = from_state (λ t. puts t ++ from_state (turn_puts n k (z +ℤ pos 1) body puts) (body t)) (with_var k z s)

-- the body that a number chooses
abbrev pub chosen : Option ℤ → List Cell → List Cell → List Cell
chosen (Some z) first second = if is_zero z then second else first
chosen None first second = []

abbrev mutual
  -- the places that a statement puts a number in
  pub puts : List (List ℤ) → Stmt → State → List Cell
  puts tables (set_var k e) s = []
  puts tables (put_v at e) s = cell_at of_v (value tables s at)
  puts tables (put_f at e) s = cell_at of_f (value tables s at)
  puts tables (if_else e first second) s = chosen (value tables s e) (all_puts tables first s) (all_puts tables second s)
  puts tables (for_each k a b body) s = turn_puts (turn_count a b) k a (run_all tables body) (all_puts tables body) s

  -- statements one after another
  pub all_puts : List (List ℤ) → Stmts → State → List Cell
  all_puts tables no_stmts s = []
  all_puts tables (stmt_and st rest) s = puts tables st s ++ from_state (all_puts tables rest) (run tables st s)

-- what a step puts
abbrev pub step_puts : List (List ℤ) → Step → Arrays → List Cell
step_puts tables step a = all_puts tables step.body (step_start step a)

-- the place is one of these
abbrev pub IsOne : Cell → List Cell → Type 0
IsOne c [] = ⊥
IsOne c (d ∷ ds) = (d ≡ c) ⊎ IsOne c ds

-- the arrays keep their lengths, and each number that is at none of these places
pub record ChangesOnly (old new : Arrays) (cells : List Cell) : Type 0 where
  pub v_length : length new.0 ≡ length old.0
  pub f_length : length new.1 ≡ length old.1
  pub v_kept : (k : ℕ) → (IsOne (of_v k) cells → ⊥) → slice_get new.0 k ≡ slice_get old.0 k
  pub f_kept : (k : ℕ) → (IsOne (of_f k) cells → ⊥) → slice_get new.1 k ≡ slice_get old.1 k

-- a step that is not stuck changes only what it puts
abbrev pub StepsChangeWhatTheyPut : Type 0
StepsChangeWhatTheyPut = (tables : List (List ℤ)) (step : Step) (old new : Arrays) → step_run tables step old ≡ Some new → ChangesOnly old new (step_puts tables step old)
