-- A settled memory holds the values of every solution.
use Rattle.std.specs.Prelude.{◌≡◌, ℕ, ℤ, List, length, slice_get, Option, Some}
use Rattle.aol_shape.specs.Shape.{rank}
use Rattle.aol_expr_tree.specs.declared.value.Val.TheVariants.{Num}
use Rattle.aol_model_types.specs.declared.job.InputArray.{InputArray}
use Rattle.aol_flat.specs.Place.{Element, IsElement}
use Rattle.aol_flat.specs.Inputs.{numbers_named, InputsFit}
use Rattle.aol_flat.specs.Equation.{Valuation, MainInput, IsSolution}
use Rattle.aol_flat.specs.Reads.{IsGiven, IsRead}
use Rattle.aol_flat.specs.Laid.{Laid, IsLaid, IsCellOf}
use Rattle.aol_flat.specs.Accept.{IsSound, IsAccepted}
use Rattle.aol_flat.specs.Net.{Net, IsNetOf, Memory, IsWritten, AreMainInputs, opening}
use Rattle.aol_runner.specs.Schedule.{Event, AreSchedules, after_levels, start, AreLevelled, HasWriters, SettledOver}

-- the opening memory holds the given number at the cell of each element of a main input
abbrev pub OpeningHolds : Laid → List InputArray → Type 0
OpeningHolds f inputs =
    (p : Element) (a : MainInput f.model p) (c : ℕ) → IsCellOf f p c → (n : ℤ) → slice_get (numbers_named inputs p.port) (rank a.port.shape p.index) ≡ Some n → opening inputs c ≡ Num n

-- the main inputs fit, their cells hold the given numbers, and nothing writes them
pub record AreOpened (f : Laid) (net : Net) (inputs : List InputArray) : Type 0 where
  pub fit : InputsFit f.model inputs
  pub holds : OpeningHolds f inputs
  pub unwritten : (p : Element) → MainInput f.model p → (c : ℕ) → IsCellOf f p c → IsWritten net c → ⊥

-- so it is where the model is laid out and the arrays stand in port order
abbrev pub MainInputsAreOpened : Type 0
MainInputsAreOpened =
    (f : Laid) (net : Net) (inputs : List InputArray) → IsSound f.model → IsLaid f → IsNetOf f net → AreMainInputs f.model inputs → AreOpened f net inputs

-- then the cell of each given element holds its value in every solution
abbrev pub GivenValuesAreHeld : Type 0
GivenValuesAreHeld =
    (f : Laid) (net : Net) (inputs : List InputArray) (mem : Memory) (v : Valuation) → IsSound f.model → IsAccepted f.model → IsLaid f → IsNetOf f net
    → AreMainInputs f.model inputs → SettledOver net (opening inputs) mem → IsSolution f.model inputs v
    → (e : Element) (c : ℕ) → IsElement f.model e → IsGiven f.model e → IsCellOf f e c → v e ≡ mem c

-- so does that of each element that is read
abbrev pub ReadValuesAreHeld : Type 0
ReadValuesAreHeld =
    (f : Laid) (net : Net) (inputs : List InputArray) (mem : Memory) (v : Valuation) → IsSound f.model → IsAccepted f.model → IsLaid f → IsNetOf f net
    → AreMainInputs f.model inputs → SettledOver net (opening inputs) mem → IsSolution f.model inputs v
    → (e : Element) (c : ℕ) → IsRead f.model e → IsCellOf f e c → v e ≡ mem c

-- so after every schedule the cell of each element that is read holds its value in every solution
abbrev pub SchedulesHoldSolutions : Type 0
SchedulesHoldSolutions =
    (f : Laid) (net : Net) (inputs : List InputArray) (v : Valuation) → IsSound f.model → IsAccepted f.model → IsLaid f → IsNetOf f net
    → AreMainInputs f.model inputs → IsSolution f.model inputs v
    → (writer : ℕ → Option (ℕ × ℕ)) (levels : List ℕ) (count : ℕ) → HasWriters net writer → AreLevelled net levels count
    → (by_level : List (List Event)) → length by_level ≡ count → AreSchedules net levels 0 by_level
    → (e : Element) (c : ℕ) → IsRead f.model e → IsCellOf f e c → (after_levels net (start (opening inputs)) by_level).memory c ≡ v e
