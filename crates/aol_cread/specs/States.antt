-- What is known of a program after some of its lines.
use Rattle.std.specs.Prelude.{ℕ, ◌-◌, ◌==◌, Bool, false, ◌||◌, ℤ, List, [], ◌∷◌, length}
use Rattle.aol_csyn.specs.Tree.{Expr, Stmt, Step, Program}
use Rattle.aol_cread.specs.declared.building.Phase.{Phase}

-- A block that is open: a `for`, the first or the second body of an `if`; with the statements before it, and the first body where the second is open.
pub data Frame : Type 0 where
  in_for : ℕ → ℤ → ℤ → List Stmt → Frame
  in_first : Expr → List Stmt → Frame
  in_second : Expr → List Stmt → List Stmt → Frame

-- What is known after some lines. `workers` is 0 before level 0 has ended; `frames` are the open blocks, the innermost first, and `here` the statements of the innermost so far.
pub record State : Type 0 where
  pub phase : Phase
  pub tables : List (List ℤ)
  pub cells : ℕ
  pub steps : List Step
  pub level : ℕ
  pub worker : ℕ
  pub workers : ℕ
  pub levels : ℕ
  pub vars : ℕ
  pub frames : List Frame
  pub here : List Stmt

-- the program, once its last line is read
abbrev pub program_in : State → Program
program_in s = record { tables = s.tables; cells = s.cells; levels = s.levels; workers = s.workers; steps = s.steps }

-- how many levels an expression of the next statement may have
abbrev pub room_in : State → ℕ
room_in s = 1023 - length s.frames

-- nothing inside may set the variable
abbrev pub is_held : ℕ → List Frame → Bool
is_held k [] = false
is_held k (in_for j a b before ∷ frames) = j == k || is_held k frames
is_held k (in_first e before ∷ frames) = is_held k frames
is_held k (in_second e first before ∷ frames) = is_held k frames
