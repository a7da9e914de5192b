-- What the instances of a model do to its cells: the view that levels, runs and emitted programs share.
use Rattle.std.specs.Prelude.{◌≡◌, ℕ, ℤ, pos, List, [], map, flat_map, length, slice_get, Option, Some, option_map, unwrap_or}
use Rattle.std.specs.List.{AllZip}
use Rattle.aol_shape.specs.Shape.{size}
use Rattle.aol_expr_tree.specs.declared.port.Port.{Port}
use Rattle.aol_expr_tree.specs.declared.value.Val.{Val}
use Rattle.aol_expr_tree.specs.declared.value.Val.TheVariants.{Num}
use Rattle.aol_model_types.specs.declared.document.Model.{Model}
use Rattle.aol_model_types.specs.declared.job.InputArray.{InputArray}
use Rattle.aol_model_types.specs.declared.task.Task.{Task}
use Rattle.aol_model_types.specs.declared.task.Task.TheVariants as tasks
use Rattle.aol_flat.specs.Tasks.{elementary_number, main_inputs}
use Rattle.aol_flat.specs.Place.{Element, task_at}
use Rattle.aol_flat.specs.InstanceValue.{instance_outputs}
use Rattle.aol_flat.specs.Equation.{Valuation}
use Rattle.aol_flat.specs.Home.{Home, Kept, Constant, NoHome, home_of}
use Rattle.aol_flat.specs.Instance.{Instance, Run, Copy, instances, read_elements, written_elements}
use Rattle.aol_flat.specs.Laid.{Laid, IsReadOf, IsCellOf}
use Rattle.aol_flat.specs.declared.view.Read.{Read}
use Rattle.aol_flat.specs.declared.view.Read.TheVariants.{Cell, Const}

-- the reads and written cells of each instance, by port and rank, and the values that it writes for those that it took
pub record Net : Type 0 where
  pub reads : List (List Read)
  pub writes : List (List ℕ)
  pub gives : ℕ → List Val → List Val

-- ---- the net of a model

-- what an instance of a task writes
abbrev pub task_gives : Model → List Val → Option Task → List Val
task_gives m taken (Some (tasks.Elementary e)) = instance_outputs (elementary_number m e.name) e taken
task_gives m taken _ = []

-- what an instance writes, by port and rank; a copy passes on what it took
abbrev pub instance_gives : Model → Instance → List Val → List Val
instance_gives m (Run place) taken = task_gives m taken (task_at m place)
instance_gives m (Copy place r repetition part) taken = taken

-- the net is that of a model laid out in cells
pub record IsNetOf (f : Laid) (net : Net) : Type 0 where
  pub many_reads : length net.reads ≡ length (instances f.model)
  pub many_writes : length net.writes ≡ length (instances f.model)
  pub reads : (j : ℕ) (i : Instance) (rs : List Read) → slice_get (instances f.model) j ≡ Some i → slice_get net.reads j ≡ Some rs → AllZip (IsReadOf f) (read_elements f.model i) rs
  pub writes : (j : ℕ) (i : Instance) (cs : List ℕ) → slice_get (instances f.model) j ≡ Some i → slice_get net.writes j ≡ Some cs → AllZip (IsCellOf f) (written_elements f.model i) cs
  pub gives : (j : ℕ) (i : Instance) (taken : List Val) → slice_get (instances f.model) j ≡ Some i → net.gives j taken ≡ instance_gives f.model i taken

-- ---- solutions in cells

-- what each cell holds
abbrev pub Memory : Type 0
Memory = ℕ → Val

-- what a read takes from a memory
abbrev pub read_value : Memory → Read → Val
read_value mem (Cell c) = mem c
read_value mem (Const n) = Num n

-- the reads of an instance
abbrev pub reads_at : Net → ℕ → List Read
reads_at net j = unwrap_or (slice_get net.reads j) []

-- the cells that it writes
abbrev pub writes_at : Net → ℕ → List ℕ
writes_at net j = unwrap_or (slice_get net.writes j) []

-- each written cell holds what its instance gives there, for what the cells that it reads hold
abbrev pub IsSettled : Net → Memory → Type 0
IsSettled net mem =
    (j k c : ℕ) → slice_get (writes_at net j) k ≡ Some c → slice_get (net.gives j (map (read_value mem) (reads_at net j))) k ≡ Some (mem c)

-- some instance writes the cell
pub record IsWritten (net : Net) (c : ℕ) : Type 0 where
  pub writer : ℕ
  pub place : ℕ
  pub at : slice_get (writes_at net writer) place ≡ Some c

-- an array for a port: of its name, with as many numbers as its shape has points
abbrev pub IsInputOf : Port → InputArray → Type 0
IsInputOf p a = (a.name ≡ p.name) × (length a.nums ≡ size p.shape)

-- the main inputs in port order
abbrev pub AreMainInputs : Model → List InputArray → Type 0
AreMainInputs m inputs = AllZip IsInputOf (main_inputs m) inputs

-- all their numbers
abbrev pub flat_inputs : List InputArray → List ℤ
flat_inputs inputs = flat_map (λ (a : InputArray). a.nums) inputs

-- the memory before the first event: the main inputs at their cells, and 0 elsewhere
abbrev pub opening : List InputArray → Memory
opening inputs c = unwrap_or (option_map (λ n. Num n) (slice_get (flat_inputs inputs) c)) (Num (pos 0))

-- ---- solutions on stored elements

-- what stored values say of an element: the value of its home, or its default number
abbrev pub element_value : (Element → Val) → Home → Val
element_value at_home (Kept e) = at_home e
element_value at_home (Constant n) = Num n
element_value at_home NoHome = Num (pos 0)

-- the valuation that stored values make
abbrev pub valuation_of : Model → (Element → Val) → Valuation
valuation_of m at_home e = element_value at_home (home_of m e)
