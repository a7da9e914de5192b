-- Which models are accepted.
use Rattle.std.specs.Prelude.{◌≡◌, ◌↔◌, ℕ, List}
use Rattle.std.specs.List.{IsAmong}
use Rattle.aol_model_types.specs.declared.document.Model.{Model}
use Rattle.aol_model_types.specs.declared.job.InputArray.{InputArray}
use Rattle.aol_model_types.specs.Rules.{ShapesAgree}
use Rattle.aol_model_types.specs.Types.{IsReadModel}
use Rattle.aol_flat.specs.Place.{Element, IsElement}
use Rattle.aol_flat.specs.Inputs.{InputsFit}
use Rattle.aol_flat.specs.Equation.{Valuation, IsSolution}
use Rattle.aol_flat.specs.Need.{IsAcyclic, IsClosed}
use Rattle.aol_flat.specs.Laid.{Laid, IsLaid}
use Rattle.aol_flat.specs.Targets.{IsSingleAssignment}
use Rattle.aol_flat.specs.Reads.{Reading, readings, IsRead, AllGiven}
use Rattle.aol_flat.specs.Limits.{IsBounded}
use Rattle.aol_flat.specs.InstanceNeed.{AreLevelsOf, AreReal, IsInCycle}

-- what is asked of a model before it is laid out; a document's model that passes the rules has all of it
pub record IsSound (m : Model) : Type 0 where
  pub shapes : ShapesAgree m
  pub read : IsReadModel m

-- what is true of every model that is laid out
pub record IsFlat (f : Laid) : Type 0 where
  pub sound : IsSound f.model
  pub limits : IsBounded f.model
  pub laid : IsLaid f

-- nothing is written twice, each element that is read is given, and none needs itself
pub record IsAccepted (m : Model) : Type 0 where
  pub shapes : ShapesAgree m
  pub limits : IsBounded m
  pub single : IsSingleAssignment m
  pub given : AllGiven m
  pub acyclic : IsAcyclic m

-- the solutions of an accepted model agree at every element that is read and stands in a list of elements that need no others
abbrev pub AcceptedSolutionsAgree : Type 0
AcceptedSolutionsAgree =
    (m : Model) (all : List Element) → IsClosed m all → IsAccepted m
    → (inputs : List InputArray) (v w : Valuation) → InputsFit m inputs → IsSolution m inputs v → IsSolution m inputs w
    → (p : Element) → IsAmong all p → IsRead m p → v p ≡ w p

-- the elements of a sound model are listed, and whatever one needs is one of them
abbrev pub ElementsAreListed : Type 0
ElementsAreListed = (m : Model) → IsSound m → (all : List Element) × IsClosed m all × ((p : Element) → IsElement m p → IsAmong all p)

-- so the solutions of a sound and accepted model agree at every element that is read
abbrev pub ReadValuesAgree : Type 0
ReadValuesAgree =
    (m : Model) → IsSound m → IsAccepted m → (inputs : List InputArray) (v w : Valuation) → InputsFit m inputs → IsSolution m inputs v → IsSolution m inputs w
    → (p : Element) → IsRead m p → v p ≡ w p

-- an accepted model has a solution for all inputs that fit
abbrev pub SolutionExists : Type 0
SolutionExists = (m : Model) (inputs : List InputArray) → IsSound m → IsAccepted m → InputsFit m inputs → (v : Valuation) × IsSolution m inputs v

-- where the rest of acceptance holds, no element needs itself exactly where the instances have levels
abbrev pub AcyclicIsLevelled : Type 0
AcyclicIsLevelled =
    (m : Model) → IsSound m → IsBounded m → IsSingleAssignment m → AllGiven m → IsAcyclic m ↔ ((level : List ℕ) × AreLevelsOf m level)

-- each listed instance of a sound model is real
abbrev pub SoundIsReal : Type 0
SoundIsReal = (m : Model) → IsSound m → AreReal m

-- in an accepted model no set of instances has a cycle
abbrev pub AcceptedHasNoCycle : Type 0
AcceptedHasNoCycle = (m : Model) → IsSound m → IsAccepted m → (j : ℕ) → IsInCycle m j → ⊥

-- the reads of a sound model are the listed ones
abbrev pub ReadingsAreReads : Type 0
ReadingsAreReads = (m : Model) → IsSound m → (p : Element) → IsRead m p ↔ ((r : Reading) × IsAmong (readings m) r × (r.element ≡ p))
