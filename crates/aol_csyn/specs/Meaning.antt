-- What a program does. A statement leads from a state to a state, or is stuck.
use Rattle.std.specs.Prelude.{◌≡◌, ℕ, zero, suc, ◌+◌, ◌*◌, ◌<◌, ℤ, pos, negsuc, ◌+ℤ◌, ◌-ℤ◌, ◌*ℤ◌, int_lt, int_le, int_div, int_rem, Bool, true, false, List, [], ◌∷◌, ◌++◌, length, slice_get, slice_set, replicate, nat_lt, ◌==◌, Option, Some, None, option_map, option_and_then, if◌then◌else◌}
use Rattle.std.specs.Int.{int_gap}
use Rattle.std.specs.List.{IsAmong}
use Rattle.aol_shape.specs.Numbers.{fits_64}
use Rattle.aol_csyn.specs.declared.program.COp.{COp}
use Rattle.aol_csyn.specs.declared.program.COp.TheVariants.{Add, Sub, Mul, Div, Rem, Lt, Le, Eq}
use Rattle.aol_csyn.specs.Tree.{Expr, num, var, tab, cell_v, cell_f, bin, Stmt, set_var, put_v, put_f, if_else, for_each, Stmts, no_stmts, stmt_and, Step, Program}

-- the two arrays, and the variables of the step that runs
pub record State : Type 0 where
  pub v : List ℤ
  pub f : List ℤ
  pub vars : List ℤ

-- ---- expressions

-- a result in 64 bits
abbrev pub checked : ℤ → Option ℤ
checked z = if fits_64 z then Some z else None

-- 1 where it holds
abbrev pub truth : Bool → ℤ
truth true = pos 1
truth false = pos 0

-- the number is 0
abbrev pub is_zero : ℤ → Bool
is_zero (pos n) = n == 0
is_zero (negsuc n) = false

-- an operator at two numbers: truncating division, a remainder with the dividend's sign, comparisons as 1 or 0;
-- stuck outside 64 bits, at a zero divisor, and where the quotient is outside 64 bits
abbrev pub applied : COp → ℤ → ℤ → Option ℤ
applied Add a b = checked (a +ℤ b)
applied Sub a b = checked (a -ℤ b)
applied Mul a b = checked (a *ℤ b)
applied Div a b = if is_zero b then None else checked (int_div a b)
applied Rem a b = if is_zero b then None else (if fits_64 (int_div a b) then Some (int_rem a b) else None)
applied Lt a b = Some (truth (int_lt a b))
applied Le a b = Some (truth (int_le a b))
applied Eq a b = Some (truth (is_zero (a -ℤ b)))

-- the entry at a number, where there is one
abbrev pub entry : List ℤ → ℤ → Option ℤ
entry xs (pos k) = slice_get xs k
entry xs (negsuc k) = None

-- the entry of a table
abbrev pub table_entry : List (List ℤ) → ℕ → ℤ → Option ℤ
table_entry tables t k = option_and_then (λ numbers. entry numbers k) (slice_get tables t)

-- what an expression gives, evaluated from left to right, or nothing where it is stuck
abbrev pub value : List (List ℤ) → State → Expr → Option ℤ
value tables s (num z) = Some z
value tables s (var k) = slice_get s.vars k
value tables s (tab t index) = option_and_then (table_entry tables t) (value tables s index)
value tables s (cell_v index) = option_and_then (entry s.v) (value tables s index)
value tables s (cell_f index) = option_and_then (entry s.f) (value tables s index)
value tables s (bin op a b) = option_and_then (λ x. option_and_then (applied op x) (value tables s b)) (value tables s a)

-- ---- statements

-- a list with one entry changed, where there is one at that number
abbrev pub changed : List ℤ → ℕ → ℤ → Option (List ℤ)
changed xs k z = if nat_lt k (length xs) then Some (slice_set xs k z) else None

-- the same, at an index that an expression gave
abbrev pub changed_at : List ℤ → ℤ → ℤ → Option (List ℤ)
changed_at xs (pos k) z = changed xs k z
changed_at xs (negsuc k) z = None

-- the state with other variables
abbrev pub with_vars : State → List ℤ → State
with_vars s xs = record { v = s.v; f = s.f; vars = xs }

-- the state with another V
abbrev pub with_v : State → List ℤ → State
with_v s xs = record { v = xs; f = s.f; vars = s.vars }

-- the state with another F
abbrev pub with_f : State → List ℤ → State
with_f s xs = record { v = s.v; f = xs; vars = s.vars }

-- a variable changed
abbrev pub with_var : ℕ → ℤ → State → Option State
with_var k z s = option_map (with_vars s) (changed s.vars k z)

-- so many turns, with the variable from a number on
abbrev pub turns : ℕ → ℕ → ℤ → (State → Option State) → State → Option State
turns zero k z body s = Some s
turns (suc n) k z body s = option_and_then (turns n k (z +ℤ pos 1) body) (option_and_then body (with_var k z s))

-- how many turns a `for` has: how far the second bound is above the first
abbrev pub turn_count : ℤ → ℤ → ℕ
turn_count a b = int_gap a b

abbrev mutual
  -- the state after a statement, or nothing where it is stuck
  pub run : List (List ℤ) → Stmt → State → Option State
  run tables (set_var k e) s = option_and_then (λ z. with_var k z s) (value tables s e)
  run tables (put_v at e) s =
      option_and_then (λ k. option_and_then (λ z. option_map (with_v s) (changed_at s.v k z)) (value tables s e)) (value tables s at)
  run tables (put_f at e) s =
      option_and_then (λ k. option_and_then (λ z. option_map (with_f s) (changed_at s.f k z)) (value tables s e)) (value tables s at)
  run tables (if_else e first second) s =
      option_and_then (λ z. if is_zero z then run_all tables second s else run_all tables first s) (value tables s e)
  run tables (for_each k a b body) s = option_and_then (with_var k b) (turns (turn_count a b) k a (run_all tables body) s)

  -- statements one after another
  pub run_all : List (List ℤ) → Stmts → State → Option State
  run_all tables no_stmts s = Some s
  run_all tables (stmt_and st rest) s = option_and_then (run_all tables rest) (run tables st s)

-- ---- programs

-- V and F, between steps
abbrev pub Arrays : Type 0
Arrays = List ℤ × List ℤ

-- the arrays of a state
abbrev pub arrays_of : State → Arrays
arrays_of s = (s.v, s.f)

-- a step begins with its variables 0
abbrev pub step_start : Step → Arrays → State
step_start step a = record { v = a.0; f = a.1; vars = replicate step.vars (pos 0) }

-- the arrays after a step
abbrev pub step_run : List (List ℤ) → Step → Arrays → Option Arrays
step_run tables step a = option_map arrays_of (run_all tables step.body (step_start step a))

-- the step of a level and a worker
abbrev pub step_of_worker : Program → ℕ → ℕ → Option Step
step_of_worker p level worker = slice_get p.steps (level * p.workers + worker)

-- the arrays after it
abbrev pub worker_run : Program → ℕ → ℕ → Arrays → Option Arrays
worker_run p level worker a = option_and_then (λ step. step_run p.tables step a) (step_of_worker p level worker)

-- one level, by its workers in the order given
abbrev pub level_run : Program → ℕ → List ℕ → Arrays → Option Arrays
level_run p level [] a = Some a
level_run p level (w ∷ order) a = option_and_then (level_run p level order) (worker_run p level w a)

-- the levels from one on, each with an order of its workers
abbrev pub levels_run : Program → ℕ → List (List ℕ) → Arrays → Option Arrays
levels_run p level [] a = Some a
levels_run p level (order ∷ orders) a = option_and_then (levels_run p (level + 1) orders) (level_run p level order a)

-- a whole run
abbrev pub program_run : Program → List (List ℕ) → Arrays → Option Arrays
program_run p orders a = levels_run p 0 orders a

-- an order of the workers: each below the count, once
pub record IsWorkerOrder (workers : ℕ) (order : List ℕ) : Type 0 where
  pub each : (w : ℕ) → w < workers → IsAmong order w
  pub only : (i w : ℕ) → slice_get order i ≡ Some w → w < workers
  pub once : (i j w : ℕ) → slice_get order i ≡ Some w → slice_get order j ≡ Some w → i ≡ j

-- one order for each level
pub record AreOrders (p : Program) (orders : List (List ℕ)) : Type 0 where
  pub count : length orders ≡ p.levels
  pub each : (level : ℕ) (order : List ℕ) → slice_get orders level ≡ Some order → IsWorkerOrder p.workers order
