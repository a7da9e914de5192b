-- Reads that are given, by the list of writers.
use Rattle.std.specs.Prelude.{◌≡◌, ◌≤◌, ℕ, ◌<◌, Bool, true, ◌||◌, nat_lt, is_some, List, map, length, slice_get, Option, Some, None, unwrap_or}
use Rattle.aol_shape.specs.Lists.{numbers_from}
use Rattle.aol_flat.specs.declared.view.Read.{Read}
use Rattle.aol_flat.specs.declared.view.Read.TheVariants.{Cell, Const}

-- a default number, one of so many first cells, or a cell with a writer
abbrev pub is_given_by : List (Option ℕ) → ℕ → Read → Bool
is_given_by list inputs (Cell c) = nat_lt c inputs || is_some (unwrap_or (slice_get list c) None)
is_given_by list inputs (Const n) = true

-- a cell that is read is one of the list
abbrev pub IsWithin : List (Option ℕ) → Read → Type 0
IsWithin list (Cell c) = c < length list
IsWithin list (Const n) = Unit {0}

-- so many cells from this one on
abbrev pub cells_from : ℕ → ℕ → List Read
cells_from first count = map (λ c. Cell c) (numbers_from first count)

-- each cell after the first so many has a writer
abbrev pub AreWrittenFrom : ℕ → List (Option ℕ) → Type 0
AreWrittenFrom first list = (c : ℕ) → first ≤ c → c < length list → (j : ℕ) × (slice_get list c ≡ Some (Some j))
