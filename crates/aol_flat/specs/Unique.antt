-- What the solutions of a model have in common.
use Rattle.std.specs.Prelude.{◌≡◌, List}
use Rattle.std.specs.List.{IsAmong}
use Rattle.aol_model_types.specs.declared.document.Model.{Model}
use Rattle.aol_model_types.specs.declared.job.InputArray.{InputArray}
use Rattle.aol_flat.specs.Place.{Element}
use Rattle.aol_flat.specs.Inputs.{InputsFit}
use Rattle.aol_flat.specs.Equation.{Valuation, IsSolution}
use Rattle.aol_flat.specs.Need.{NeedsItself, IsGrounded, IsDetermined, IsClosed}

-- two solutions agree at each element that is determined
abbrev pub SolutionsAgree : Type 0
SolutionsAgree =
    (m : Model) (inputs : List InputArray) (v w : Valuation) → InputsFit m inputs → IsSolution m inputs v → IsSolution m inputs w
    → (p : Element) → IsDetermined m p → v p ≡ w p

-- among finitely many elements that need no others, where none needs itself, each is grounded
abbrev pub AcyclicIsGrounded : Type 0
AcyclicIsGrounded =
    (m : Model) (all : List Element) → IsClosed m all → ((p : Element) → IsAmong all p → NeedsItself m p → ⊥)
    → (p : Element) → IsAmong all p → IsGrounded m p
