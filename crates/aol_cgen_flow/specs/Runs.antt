-- The whole run of a program whose steps are right.
use Rattle.std.specs.Prelude.{◌≡◌, ℕ, List, length, Some}
use Rattle.aol_allocate.specs.Placement.{IsPlacement}
use Rattle.aol_csyn.specs.Meaning.{Arrays, program_run, AreOrders}
use Rattle.aol_csyn.specs.Tree.{Program}
use Rattle.aol_flat.specs.Accept.{IsAccepted, IsFlat}
use Rattle.aol_flat.specs.Equation.{Valuation, IsSolution}
use Rattle.aol_flat.specs.InstanceNeed.{AreLevelsOf, level_count}
use Rattle.aol_flat.specs.Laid.{Laid, IsCellOf, main_input_elements}
use Rattle.aol_flat.specs.Net.{Net, IsNetOf, AreMainInputs}
use Rattle.aol_flat.specs.Place.{Element}
use Rattle.aol_flat.specs.Reads.{IsRead}
use Rattle.aol_model_types.specs.declared.job.InputArray.{InputArray}
use Rattle.aol_cgen_laws.specs.Emitted.{Holds, AreWords, opening_arrays, IsEmitted}

-- the program owes what it has to on each net of the model
abbrev pub ProgramOf : Laid → List ℕ → List ℕ → ℕ → Program → Type 0
ProgramOf f levels workers count p = (net : Net) → IsNetOf f net → IsEmitted f.model net (length f.cells) (length (main_input_elements f.model)) levels (level_count levels) workers count p

-- the run from the main inputs is not stuck, and at its end the cell of each element that is read, as of each main output, holds its value in every solution
pub record RunHolds (f : Laid) (p : Program) (inputs : List InputArray) (orders : List (List ℕ)) : Type 0 where
  pub end : Arrays
  pub runs : program_run p orders (opening_arrays (length f.cells) inputs) ≡ Some end
  pub holds : (v : Valuation) → IsSolution f.model inputs v → (e : Element) (c : ℕ) → IsRead f.model e → IsCellOf f e c → Holds f.model end c (v e)

-- so it is for all main inputs that fit, and for every order of the workers in each level
abbrev pub RunsAreRight : Laid → Program → Type 0
RunsAreRight f p = (inputs : List InputArray) → AreMainInputs f.model inputs → AreWords inputs → (orders : List (List ℕ)) → AreOrders p orders → RunHolds f p inputs orders

-- it is so where the program owes what it has to
abbrev pub EmittedRunsAreRight : Type 0
EmittedRunsAreRight =
    (f : Laid) (levels workers : List ℕ) (count : ℕ) (p : Program) → IsFlat f → IsAccepted f.model → AreLevelsOf f.model levels → IsPlacement f.model workers count
    → ProgramOf f levels workers count p → RunsAreRight f p
