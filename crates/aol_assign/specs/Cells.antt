-- The one writer of a cell, and the cells that are given.
use Rattle.std.specs.Prelude.{◌≡◌, ◌↔◌, ◌⊎◌, ℕ, ◌<◌, length, slice_get, Some}
use Rattle.aol_model_types.specs.declared.document.Model.{Model}
use Rattle.aol_flat.specs.Instance.{Instance, instances}
use Rattle.aol_flat.specs.Place.{Element, IsElement}
use Rattle.aol_flat.specs.Laid.{Laid, IsLaid, IsReadOf, main_input_elements}
use Rattle.aol_flat.specs.Reads.{IsGiven}
use Rattle.aol_flat.specs.declared.view.Read.{Read}
use Rattle.aol_flat.specs.declared.view.Read.TheVariants.{Cell, Const}
use Rattle.aol_flat.specs.Level.{WritesCell}
use Rattle.aol_flat.specs.Targets.{IsSingleAssignment}
use Rattle.aol_flat.specs.Accept.{IsSound}

-- an instance of a model has one number
abbrev pub InstancesDiffer : Type 0
InstancesDiffer = (m : Model) (j k : ℕ) (i : Instance) → slice_get (instances m) j ≡ Some i → slice_get (instances m) k ≡ Some i → j ≡ k

-- where nothing is written twice, a cell has at most one writer
abbrev pub CellsHaveOneWriter : Type 0
CellsHaveOneWriter = (f : Laid) → IsSound f.model → IsSingleAssignment f.model → (j k c : ℕ) → WritesCell f j c → WritesCell f k c → j ≡ k

-- what is read is a default number, a main input, or a cell that an instance writes
abbrev pub IsGivenRead : Laid → Read → Type 0
IsGivenRead f (Const n) = Unit {0}
IsGivenRead f (Cell c) = (c < length (main_input_elements f.model)) ⊎ ((j : ℕ) × WritesCell f j c)

-- where nothing is written twice, an element is given exactly where reading it is so
abbrev pub GivenByCells : Type 0
GivenByCells =
    (f : Laid) → IsSound f.model → IsLaid f → IsSingleAssignment f.model → (p : Element) (r : Read) → IsElement f.model p → IsReadOf f p r → IsGiven f.model p ↔ IsGivenRead f r
