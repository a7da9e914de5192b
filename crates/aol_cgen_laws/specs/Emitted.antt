-- What an emitted program owes: from every state in which the lower levels hold their values, each step computes its own instances' values and nothing else.
use Rattle.std.specs.Prelude.{◌≡◌, ℕ, ◌-◌, ◌<◌, List, [], ◌∷◌, ◌++◌, replicate, length, slice_get, Some, ℤ, pos, true, ◌⊎◌, ◌↔◌}
use Rattle.std.specs.List.{IsAmong}
use Rattle.aol_shape.specs.Numbers.{fits_64}
use Rattle.aol_expr_tree.specs.declared.value.Val.{Val}
use Rattle.aol_expr_tree.specs.declared.value.Val.TheVariants.{Num, Bad}
use Rattle.aol_model_types.specs.declared.document.Model.{Model}
use Rattle.aol_model_types.specs.declared.job.InputArray.{InputArray}
use Rattle.aol_model_types.specs.declared.task.Task.{Task}
use Rattle.aol_model_types.specs.declared.task.Task.TheVariants as tasks
use Rattle.aol_flat.specs.Net.{Net, Memory, writes_at, IsSettled, IsWritten, flat_inputs}
use Rattle.aol_csyn.specs.Tree.{Step, Program}
use Rattle.aol_csyn.specs.Form.{IsWellFormed}
use Rattle.aol_csyn.specs.Meaning.{Arrays, step_run, step_of_worker, program_run, AreOrders}
use Rattle.aol_csyn.specs.Puts.{of_v, of_f, step_puts, IsOne}
use Rattle.aol_cinstance.specs.Effect.{out_sizes}
use Rattle.aol_cinstance.specs.Values.{mark}

-- ---- how a cell holds a value

-- the sizes of the output ports of each elementary task
abbrev pub output_sizes : List Task → List (List ℕ)
output_sizes [] = []
output_sizes (tasks.Elementary e ∷ ts) = out_sizes e.outs ∷ output_sizes ts
output_sizes (tasks.Compound c ∷ ts) = output_sizes ts
output_sizes (tasks.Repeated t ∷ ts) = output_sizes ts

-- a number stands in V beside 0 in F; a fault has 0 in V and its mark in F
abbrev pub Holds : Model → Arrays → ℕ → Val → Type 0
Holds m a c (Num n) = (slice_get a.0 c ≡ Some n) × (slice_get a.1 c ≡ Some (pos 0))
Holds m a c (Bad s) = (slice_get a.0 c ≡ Some (pos 0)) × (slice_get a.1 c ≡ Some (mark (output_sizes m.tasks) s))

-- both arrays hold at the cell what they held
abbrev pub SameAt : Arrays → Arrays → ℕ → Type 0
SameAt a b c = (slice_get b.0 c ≡ slice_get a.0 c) × (slice_get b.1 c ≡ slice_get a.1 c)

-- ---- one step

-- a cell that an instance of this level and worker writes
pub record IsOfStep (net : Net) (levels workers : List ℕ) (level worker c : ℕ) : Type 0 where
  pub instance : ℕ
  pub place : ℕ
  pub at_level : slice_get levels instance ≡ Some level
  pub at_worker : slice_get workers instance ≡ Some worker
  pub writes : slice_get (writes_at net instance) place ≡ Some c

-- one that an instance of a lower level writes
pub record IsBelow (net : Net) (levels : List ℕ) (level c : ℕ) : Type 0 where
  pub instance : ℕ
  pub place : ℕ
  pub own_level : ℕ
  pub at_level : slice_get levels instance ≡ Some own_level
  pub below : own_level < level
  pub writes : slice_get (writes_at net instance) place ≡ Some c

-- the arrays have one entry for each cell, and hold the inputs' and all lower instances' values
pub record IsReadyFor (m : Model) (net : Net) (levels : List ℕ) (cells inputs level : ℕ) (mem : Memory) (a : Arrays) : Type 0 where
  pub v_length : length a.0 ≡ cells
  pub f_length : length a.1 ≡ cells
  pub main_inputs : (c : ℕ) → c < inputs → Holds m a c (mem c)
  pub lower : (c : ℕ) → IsBelow net levels level c → Holds m a c (mem c)

-- the step isn't stuck, puts exactly its own cells, leaves them with their values, and changes no other
pub record StepIsRight (m : Model) (net : Net) (levels workers : List ℕ) (p : Program) (level worker : ℕ) (mem : Memory) (a : Arrays) : Type 0 where
  pub step : Step
  pub is_step : step_of_worker p level worker ≡ Some step
  pub end : Arrays
  pub runs : step_run p.tables step a ≡ Some end
  pub puts_v : (c : ℕ) → IsOne (of_v c) (step_puts p.tables step a) ↔ IsOfStep net levels workers level worker c
  pub puts_f : (c : ℕ) → IsOne (of_f c) (step_puts p.tables step a) ↔ IsOfStep net levels workers level worker c
  pub v_length : length end.0 ≡ length a.0
  pub f_length : length end.1 ≡ length a.1
  pub own : (c : ℕ) → IsOfStep net levels workers level worker c → Holds m end c (mem c)
  pub others : (c : ℕ) → (IsOfStep net levels workers level worker c → ⊥) → SameAt a end c

-- the main inputs' cells hold numbers of 64 bits
abbrev pub AreInputs : ℕ → Memory → Type 0
AreInputs inputs mem = (c : ℕ) → c < inputs → (n : ℤ) × (mem c ≡ Num n) × (fits_64 n ≡ true)

-- each number of the given arrays has 64 bits
abbrev pub AreWords : List InputArray → Type 0
AreWords inputs = (a : InputArray) → IsAmong inputs a → (n : ℤ) → IsAmong a.nums n → fits_64 n ≡ true

-- the arrays before the first step: the main inputs at their cells, and 0 elsewhere
abbrev pub opening_arrays : ℕ → List InputArray → Arrays
opening_arrays cells inputs = (flat_inputs inputs ++ replicate (cells - length (flat_inputs inputs)) (pos 0), replicate cells (pos 0))

-- ---- the program

-- it is well formed, for so many cells, levels and workers, and each step is right from every state that is ready for its level
pub record IsEmitted (m : Model) (net : Net) (cells inputs : ℕ) (levels : List ℕ) (level_count : ℕ) (workers : List ℕ) (worker_count : ℕ) (p : Program) : Type 0 where
  pub formed : IsWellFormed p
  pub of_cells : p.cells ≡ cells
  pub of_levels : p.levels ≡ level_count
  pub of_workers : p.workers ≡ worker_count
  pub steps : (mem : Memory) → AreInputs inputs mem → IsSettled net mem → (level worker : ℕ) → level < level_count → worker < worker_count
      → (a : Arrays) → IsReadyFor m net levels cells inputs level mem a → StepIsRight m net levels workers p level worker mem a

-- each written cell has one writer, whose level and worker are below the counts; a main input's cell is written by nothing; and whether a step writes a cell is known
pub record AreShared (net : Net) (inputs : ℕ) (levels : List ℕ) (level_count : ℕ) (workers : List ℕ) (worker_count : ℕ) : Type 0 where
  pub one : (c i k j l : ℕ) → slice_get (writes_at net i) k ≡ Some c → slice_get (writes_at net j) l ≡ Some c → i ≡ j
  pub level : (c i k : ℕ) → slice_get (writes_at net i) k ≡ Some c → (l : ℕ) × (slice_get levels i ≡ Some l) × (l < level_count)
  pub worker : (c i k : ℕ) → slice_get (writes_at net i) k ≡ Some c → (w : ℕ) × (slice_get workers i ≡ Some w) × (w < worker_count)
  pub input : (c : ℕ) → c < inputs → IsWritten net c → ⊥
  pub known : (level worker c : ℕ) → IsOfStep net levels workers level worker c ⊎ (IsOfStep net levels workers level worker c → ⊥)

-- for every order of the workers in each level the run isn't stuck, and ends with every written cell's value and every other cell as it was
pub record RunIsRight (m : Model) (net : Net) (p : Program) (mem : Memory) (orders : List (List ℕ)) (a : Arrays) : Type 0 where
  pub end : Arrays
  pub runs : program_run p orders a ≡ Some end
  pub written : (c : ℕ) → IsWritten net c → Holds m end c (mem c)
  pub others : (c : ℕ) → (IsWritten net c → ⊥) → SameAt a end c

-- right steps make a right run
abbrev pub EmittedIsRight : Type 0
EmittedIsRight =
    (m : Model) (net : Net) (cells inputs : ℕ) (levels : List ℕ) (level_count : ℕ) (workers : List ℕ) (worker_count : ℕ) (p : Program)
    → AreShared net inputs levels level_count workers worker_count → IsEmitted m net cells inputs levels level_count workers worker_count p
    → (mem : Memory) → AreInputs inputs mem → IsSettled net mem → (orders : List (List ℕ)) → AreOrders p orders
    → (a : Arrays) → length a.0 ≡ cells → length a.1 ≡ cells → ((c : ℕ) → c < inputs → Holds m a c (mem c)) → RunIsRight m net p mem orders a
