-- The leaf of each instance.
use Rattle.std.specs.Prelude.{◌≡◌, ℕ, ◌+◌, ◌<◌, ◌≤◌, List, length, slice_get, Some}
use Rattle.aol_model_types.specs.declared.document.Model.{Model}
use Rattle.aol_flat.specs.Instance.{leaves}
use Rattle.aol_flat.specs.LeafCursor.{first_on, instances_on}

-- the instance is one of the leaf's
pub record IsOnLeaf (m : Model) (leaf i : ℕ) : Type 0 where
  pub within : leaf < length (leaves m)
  pub low : first_on m leaf ≤ i
  pub high : i < first_on m leaf + instances_on m leaf

-- the leaves of the first n instances
pub record AreLeavesTo (m : Model) (n : ℕ) (list : List ℕ) : Type 0 where
  pub many : length list ≡ n
  pub each : (i leaf : ℕ) → slice_get list i ≡ Some leaf → IsOnLeaf m leaf i
