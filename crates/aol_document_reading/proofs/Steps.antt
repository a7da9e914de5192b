-- A step and a task by their kinds.
use Rattle.std.proofs.Common.{◌≡◌, ℕ, List, ◌∷◌, [], true, false, Result, Ok, codes, Bool, sym, ◌∙◌, if◌then◌else◌}
use Rattle.serde_json.specs.Data.{Data}
use Rattle.aol_shape.specs.Lists.{same}
use Rattle.aol_model_types.specs.declared.job.Step.{Step}
use Rattle.aol_model_types.specs.Reading.{At, Fault, kind_at, tile_at, pave_at, skew_at, fuse_at, step_at, elementary_at, compound_at, repeated_at, task_at}
use Rattle.aol_model_types.specs.declared.task.Task.{Task}
use Rattle.aol_document_reading.specs.Parts.{elementary_by_parts, compound_by_parts, repeated_by_parts}
use Rattle.aol_document_reading.proofs.Parts.{elementary_is, compound_is, repeated_is}
use Rattle.aol_document_reading.proofs.Tasks.{first_kind, other_kind, chosen, passed}

module _ (at : At) (d : Data) (kind : List ℕ) (is : kind_at (codes "tile" ∷ codes "pave" ∷ codes "skew" ∷ codes "fuse" ∷ []) at d ≡ Ok kind) where
  abbrev last : List ℕ → Result Step Fault
  last k = if same k (codes "skew") then skew_at at d else fuse_at at d

  abbrev others : List ℕ → Result Step Fault
  others k = if same k (codes "pave") then pave_at at d else last k

  pub tile_is : same kind (codes "tile") ≡ true → step_at at d ≡ tile_at at d
  tile_is h = first_kind (kind_at (codes "tile" ∷ codes "pave" ∷ codes "skew" ∷ codes "fuse" ∷ []) at d) kind (codes "tile") (tile_at at d) others is h

  no_tile : same kind (codes "tile") ≡ false → step_at at d ≡ others kind
  no_tile h = other_kind (kind_at (codes "tile" ∷ codes "pave" ∷ codes "skew" ∷ codes "fuse" ∷ []) at d) kind (codes "tile") (tile_at at d) others is h

  pub pave_is : same kind (codes "tile") ≡ false → same kind (codes "pave") ≡ true → step_at at d ≡ pave_at at d
  pave_is h p = no_tile h ∙ chosen (same kind (codes "pave")) (pave_at at d) (last kind) p

  pub skew_is : same kind (codes "tile") ≡ false → same kind (codes "pave") ≡ false → same kind (codes "skew") ≡ true → step_at at d ≡ skew_at at d
  skew_is h p s = no_tile h ∙ passed (same kind (codes "pave")) (pave_at at d) (last kind) p ∙ chosen (same kind (codes "skew")) (skew_at at d) (fuse_at at d) s

  pub fuse_is : same kind (codes "tile") ≡ false → same kind (codes "pave") ≡ false → same kind (codes "skew") ≡ false → step_at at d ≡ fuse_at at d
  fuse_is h p s = no_tile h ∙ passed (same kind (codes "pave")) (pave_at at d) (last kind) p ∙ passed (same kind (codes "skew")) (skew_at at d) (fuse_at at d) s

module _ (later : Bool) (at : At) (d : Data) (kind : List ℕ) (is : kind_at (codes "elementary" ∷ codes "compound" ∷ codes "repeated" ∷ []) at d ≡ Ok kind) where
  abbrev other_tasks : List ℕ → Result Task Fault
  other_tasks k = if same k (codes "compound") then compound_at at d else repeated_at later at d

  pub elementary_chosen : same kind (codes "elementary") ≡ true → elementary_by_parts at d ≡ task_at later at d
  elementary_chosen h = elementary_is at d ∙ sym (first_kind (kind_at (codes "elementary" ∷ codes "compound" ∷ codes "repeated" ∷ []) at d) kind (codes "elementary") (elementary_at at d) other_tasks is h)

  no_elementary : same kind (codes "elementary") ≡ false → task_at later at d ≡ other_tasks kind
  no_elementary h = other_kind (kind_at (codes "elementary" ∷ codes "compound" ∷ codes "repeated" ∷ []) at d) kind (codes "elementary") (elementary_at at d) other_tasks is h

  pub compound_chosen : same kind (codes "elementary") ≡ false → same kind (codes "compound") ≡ true → compound_by_parts at d ≡ task_at later at d
  compound_chosen h k = compound_is at d ∙ sym (no_elementary h ∙ chosen (same kind (codes "compound")) (compound_at at d) (repeated_at later at d) k)

  pub repeated_chosen : same kind (codes "elementary") ≡ false → same kind (codes "compound") ≡ false → repeated_by_parts later at d ≡ task_at later at d
  repeated_chosen h k = repeated_is at d later ∙ sym (no_elementary h ∙ passed (same kind (codes "compound")) (compound_at at d) (repeated_at later at d) k)
