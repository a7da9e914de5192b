-- The list of the writers of cells, while it is made.
use Rattle.std.specs.Prelude.{◌≡◌, ◌↔◌, ℕ, ◌+◌, ◌<◌, List, [], ◌∷◌, take, length, slice_get, slice_set, Option, Some}
use Rattle.aol_flat.specs.Instance.{leaves}
use Rattle.aol_flat.specs.Laid.{Laid}
use Rattle.aol_flat.specs.Leaves.{instances_of}
use Rattle.aol_flat.specs.Level.{WritesCell}

-- an instance at some cells of the list
abbrev pub put_all : List (Option ℕ) → List ℕ → ℕ → List (Option ℕ)
put_all list [] number = list
put_all list (c ∷ cs) number = put_all (slice_set list c (Some number)) cs number

-- the list has the writers of each cell among the first n instances
pub record HasWriters (f : Laid) (n : ℕ) (list : List (Option ℕ)) : Type 0 where
  pub many : length list ≡ length f.cells
  pub some : (c j : ℕ) → (slice_get list c ≡ Some (Some j)) ↔ ((j < n) × WritesCell f j c)

-- the list grows by the instances of a leaf
abbrev pub PutsLeaf : Laid → ℕ → List (Option ℕ) → List (Option ℕ) → Type 0
PutsLeaf f leaf old new = HasWriters f (instances_of (take leaf (leaves f.model))) old → HasWriters f (instances_of (take (leaf + 1) (leaves f.model))) new
