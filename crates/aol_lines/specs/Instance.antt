-- How an instance is written: by its leaf's path and its indices, as `/h/*{3}`.
use Rattle.std.specs.Prelude.{◌≡◌, ℕ, ◌-◌, ◌<◌, ◌≤◌, nat_lt, List, [], ◌∷◌, ◌++◌, take, slice_get, Some, if◌then◌else◌}
use Rattle.aol_shape.specs.Shape.{size, point_at}
use Rattle.aol_vsl.specs.Text.{shape_text}
use Rattle.aol_model_types.specs.declared.document.Model.{Model}
use Rattle.aol_flat.specs.Instance.{Leaf, leaves, leaf_path}
use Rattle.aol_flat.specs.Leaves.{instances_of}

-- the instance with this number among those of some leaves
abbrev pub text_among : Model → List Leaf → ℕ → List ℕ
text_among m [] j = []
text_among m (l ∷ ls) j = if nat_lt j (size l.space) then leaf_path m l ++ shape_text (point_at l.space j) else text_among m ls (j - size l.space)

-- the instance with this number
abbrev pub instance_text : Model → ℕ → List ℕ
instance_text m j = text_among m (leaves m) j

-- the leaf with the number `leaf` has the instance with the number j
pub record IsInLeaf (m : Model) (j leaf : ℕ) : Type 0 where
  pub work : Leaf
  pub at : slice_get (leaves m) leaf ≡ Some work
  pub after : instances_of (take leaf (leaves m)) ≤ j
  pub within : j - instances_of (take leaf (leaves m)) < size work.space
