-- What the memory holds after a run, and what that says of the solutions.
use Rattle.std.specs.Prelude.{◌≡◌, ℕ, List, length, slice_get, Some, pos, replicate}
use Rattle.aol_expr_tree.specs.declared.value.Val.TheVariants.{Num}
use Rattle.aol_model_types.specs.declared.document.Model.{Model}
use Rattle.aol_model_types.specs.declared.job.InputArray.{InputArray}
use Rattle.aol_flat.specs.Place.{Element, IsElement}
use Rattle.aol_flat.specs.Equation.{Valuation, IsSolution}
use Rattle.aol_flat.specs.InstanceNeed.{AreLevelsOf, level_count}
use Rattle.aol_flat.specs.Accept.{IsSound, IsAccepted}
use Rattle.aol_flat.specs.Laid.{Laid, IsLaid, IsCellOf}
use Rattle.aol_flat.specs.Net.{Net, IsNetOf, Memory, writes_at, IsWritten, opening, AreMainInputs}
use Rattle.aol_runner.specs.Outputs.{AreOutputs}
use Rattle.aol_runner.specs.Schedule.{Event, AreSchedules, after_levels, start, SettledOver}
use Rattle.aol_level.specs.declared.kept.Kept.{Kept}
use Rattle.aol_runner.specs.declared.outputs.OutputArray.{OutputArray}

-- the field that a run takes: each cell 0, of worker 0
abbrev pub fresh : ℕ → List Kept
fresh cells = replicate cells (record { val = Num (pos 0); worker = 0 })

-- the field that a run hands back: the settled memory over the opening one, which is what every schedule leaves, and at each cell the worker of the instance that writes it
pub record IsRunField (f : Laid) (workers : List ℕ) (inputs : List InputArray) (field : List Kept) : Type 0 where
  pub net : Net
  pub is_net : IsNetOf f net
  pub memory : Memory
  pub settled : SettledOver net (opening inputs) memory
  pub many : length field ≡ length f.cells
  pub holds : (c : ℕ) (kept : Kept) → slice_get field c ≡ Some kept → kept.val ≡ memory c
  pub worker : (j k c : ℕ) (kept : Kept) → slice_get (writes_at net j) k ≡ Some c → slice_get field c ≡ Some kept → slice_get workers j ≡ Some kept.worker
  pub no_worker : (c : ℕ) (kept : Kept) → (IsWritten net c → ⊥) → slice_get field c ≡ Some kept → kept.worker ≡ 0

-- each written cell of the settled memory holds its elements' value in every solution
abbrev pub MemoryIsEverySolution : Type 0
MemoryIsEverySolution =
    (f : Laid) (net : Net) (inputs : List InputArray) (mem : Memory) (v : Valuation) → IsSound f.model → IsAccepted f.model → IsLaid f → IsNetOf f net → AreMainInputs f.model inputs
    → SettledOver net (opening inputs) mem → IsSolution f.model inputs v → (e : Element) (c : ℕ) → IsElement f.model e → IsCellOf f e c → IsWritten net c → v e ≡ mem c

-- every schedule leaves what the field holds
abbrev pub SchedulesLeaveField : Type 0
SchedulesLeaveField =
    (f : Laid) (workers levels : List ℕ) (inputs : List InputArray) (field : List Kept) (net : Net) → IsSound f.model → IsAccepted f.model → IsLaid f → IsNetOf f net → AreLevelsOf f.model levels
    → IsRunField f workers inputs field → (by_level : List (List Event)) → length by_level ≡ level_count levels → AreSchedules net levels 0 by_level
    → (c : ℕ) (kept : Kept) → slice_get field c ≡ Some kept → (after_levels net (start (opening inputs)) by_level).memory c ≡ kept.val

-- runs with two placements leave equal values
abbrev pub WorkersChangeNoValue : Type 0
WorkersChangeNoValue =
    (f : Laid) (workers others levels : List ℕ) (inputs : List InputArray) (field other : List Kept) → IsSound f.model → IsAccepted f.model → IsLaid f → AreLevelsOf f.model levels
    → IsRunField f workers inputs field → IsRunField f others inputs other → (c : ℕ) (kept kept' : Kept) → slice_get field c ≡ Some kept → slice_get other c ≡ Some kept' → kept.val ≡ kept'.val

-- the outputs are determined
abbrev pub OutputsAreOne : Type 0
OutputsAreOne = (m : Model) (inputs : List InputArray) (outputs others : List OutputArray) → AreOutputs m inputs outputs → AreOutputs m inputs others → outputs ≡ others
