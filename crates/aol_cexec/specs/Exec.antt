-- What running a program in one order answers.
use Rattle.std.specs.Prelude.{◌≡◌, ℕ, ◌-◌, ◌<◌, List, ◌++◌, length, replicate, reverse, slice_get, take, Some, None, ℤ, pos}
use Rattle.std.specs.List.{range_with_len}
use Rattle.aol_csyn.specs.Tree.{Program}
use Rattle.aol_csyn.specs.Meaning.{Arrays, worker_run, level_run, levels_run, program_run}
use Rattle.aol_cexec.specs.declared.order.Order.{Order}
use Rattle.aol_cexec.specs.declared.order.Order.TheVariants.{Up, Down}

-- the workers of a level in this order
abbrev pub workers_in : Order → ℕ → List ℕ
workers_in Up n = range_with_len 0 n
workers_in Down n = reverse (range_with_len 0 n)

-- the worker that runs at a place of this order
abbrev pub worker_at : Order → ℕ → ℕ → ℕ
worker_at Up n place = place
worker_at Down n place = n - 1 - place

-- the same order in each level
abbrev pub orders_in : Order → Program → List (List ℕ)
orders_in order p = replicate p.levels (workers_in order p.workers)

-- the arrays before the first step: V holds these numbers and then 0, and F 0
abbrev pub opened : ℕ → List ℤ → Arrays
opened cells numbers = (numbers ++ replicate (cells - length numbers) (pos 0), replicate cells (pos 0))

-- the run comes to its end with these arrays
abbrev pub EndsWith : Program → Order → Arrays → Arrays → Type 0
EndsWith p order a end = program_run p (orders_in order p) a ≡ Some end

-- in this level, opened so, this worker is the first that is stuck
pub record IsStuckIn (p : Program) (order : Order) (level worker : ℕ) (a : Arrays) : Type 0 where
  pub place : ℕ
  pub at_worker : slice_get (workers_in order p.workers) place ≡ Some worker
  pub reached : Arrays
  pub workers_before : level_run p level (take place (workers_in order p.workers)) a ≡ Some reached
  pub stuck : worker_run p level worker reached ≡ None

-- This step is the first that is stuck: the levels before it, and the workers before it in its level, have run.
pub record IsStuckAt (p : Program) (order : Order) (a : Arrays) (level worker : ℕ) : Type 0 where
  pub at_level : level < p.levels
  pub opening : Arrays
  pub levels_before : levels_run p 0 (take level (orders_in order p)) a ≡ Some opening
  pub inside : IsStuckIn p order level worker opening

-- what a run answers
pub data Executed : Type 0 where
  Ended : Arrays → Executed
  Stopped : (level worker : ℕ) → Executed

-- a run in this order answers so
abbrev pub Executes : Program → Order → Arrays → Executed → Type 0
Executes p order a (Ended end) = EndsWith p order a end
Executes p order a (Stopped level worker) = IsStuckAt p order a level worker

-- a run in one order has one answer
pub record IsDecided (p : Program) (order : Order) (a : Arrays) : Type 0 where
  pub answer : Executed
  pub executes : Executes p order a answer
  pub one : (other : Executed) → Executes p order a other → other ≡ answer

-- each run is decided
abbrev pub RunIsDecided : Type 0
RunIsDecided = (p : Program) (order : Order) (a : Arrays) → IsDecided p order a
