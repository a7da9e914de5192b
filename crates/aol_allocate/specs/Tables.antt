-- The workers of the leaves that entries name, and those of all instances.
use Rattle.std.specs.Prelude.{◌≡◌, ℕ, List, [], ◌∷◌, ◌++◌, map, length, slice_get, Bool, true, false, Option, Some, None, Result, Ok, Err, option_map, is_some, String}
use Rattle.std.specs.List.{count_by}
use Rattle.std.specs.BTreeMap.{BTreeMap, get_by_text}
use Rattle.std.specs.declared.alloc.Global.{Global}
use Rattle.aol_shape.specs.Lists.{numbers_below}
use Rattle.aol_shape.specs.Shape.{size}
use Rattle.aol_model_types.specs.declared.document.Model.{Model}
use Rattle.aol_model_types.specs.declared.job.Entry.{Entry}
use Rattle.aol_flat.specs.declared.leaf.LeafKind.{LeafKind}
use Rattle.aol_flat.specs.declared.leaf.LeafKind.TheVariants as kinds
use Rattle.aol_flat.specs.Instance.{Leaf, leaves}
use Rattle.aol_allocate.specs.declared.cause.PlaceRefused.{PlaceRefused}
use Rattle.aol_allocate.specs.declared.cause.PlaceRefused.TheVariants as refused
use Rattle.aol_allocate.specs.declared.fault.PlaceFault.{PlaceFault}
use Rattle.aol_allocate.specs.declared.fault.PlaceFault.TheVariants.{Cause, NoMemory}
use Rattle.aol_allocate.specs.Placement.{leaf_number, entry_cause, first_cause, entry_of, even_worker}
use Rattle.aol_allocate.specs.Marks.{placed_workers}

-- ---- leaves by their paths

-- the row of a leaf is that of an elementary task
abbrev pub is_elementary : LeafKind → Bool
is_elementary (kinds.Elementary k) = true
is_elementary kinds.Copy = false

-- a map that finds the numbers of the elementary leaves by their paths
abbrev pub FindsLeaves : Model → BTreeMap (String Global) ℕ → Type 0
FindsLeaves m numbers = (path : List ℕ) → get_by_text numbers path ≡ leaf_number m path

-- ---- a row for each leaf

-- the row of the k-th leaf: the workers as the leaf's entry places them, where it has one
abbrev pub row_of : Model → ℕ → List Entry → ℕ → Leaf → Option (List ℕ)
row_of m workers entries k l = option_map (λ e. placed_workers e workers l.space) (entry_of m entries k)

-- the rows after these entries, each of which names a leaf of its own
pub record IsTable (m : Model) (workers : ℕ) (entries : List Entry) (rows : List (Option (List ℕ))) : Type 0 where
  pub many : length rows ≡ length (leaves m)
  pub counted : count_by is_some rows ≡ length entries
  pub each : (k : ℕ) (l : Leaf) → slice_get (leaves m) k ≡ Some l → slice_get rows k ≡ Some (row_of m workers entries k l)

-- one more entry has no cause and its row, or it has a cause
abbrev pub PlacedAfter : Model → ℕ → List Entry → Entry → List (Option (List ℕ)) → Result (Unit {0}) PlaceFault → Type 0
PlacedAfter m workers earlier e rows (Ok done) = (entry_cause m earlier e ≡ None) × IsTable m workers (earlier ++ e ∷ []) rows
PlacedAfter m workers earlier e rows (Err (Cause c)) = entry_cause m earlier e ≡ Some c
PlacedAfter m workers earlier e rows (Err NoMemory) = Unit {0}

-- so after whichever entries these rows are those of
abbrev pub PlacesNext : Model → ℕ → Entry → List (Option (List ℕ)) → List (Option (List ℕ)) → Result (Unit {0}) PlaceFault → Type 0
PlacesNext m workers e old new result = (earlier : List Entry) → IsTable m workers earlier old → PlacedAfter m workers earlier e new result

-- no entry has a cause and all have their rows, or the first one that has a cause is told
abbrev pub PlacesAll : Model → ℕ → List Entry → List (Option (List ℕ)) → Result (Unit {0}) PlaceRefused → Type 0
PlacesAll m workers entries rows (Ok done) = (first_cause m entries ≡ None) × IsTable m workers entries rows
PlacesAll m workers entries rows (Err (refused.Entry k c)) = first_cause m entries ≡ Some (k, c)
PlacesAll m workers entries rows (Err refused.NoMemory) = Unit {0}

-- ---- all instances

-- the workers of so many instances, by their leaf's row or else evenly
abbrev pub row_workers : ℕ → ℕ → Option (List ℕ) → List ℕ
row_workers workers count None = map (even_worker workers count) (numbers_below count)
row_workers workers count (Some placed) = placed

-- the workers of all instances, leaf by leaf
abbrev pub rows_workers : ℕ → List Leaf → List (Option (List ℕ)) → List ℕ
rows_workers workers [] rows = []
rows_workers workers (l ∷ ls) [] = []
rows_workers workers (l ∷ ls) (row ∷ rows) = row_workers workers (size l.space) row ++ rows_workers workers ls rows
