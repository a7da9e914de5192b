-- Levels of the first instances, where each needs earlier ones alone.
use Rattle.std.specs.Prelude.{◌≡◌, ◌+◌, ◌<◌, ◌≤◌, ◌^◌, ℕ, List, length, slice_get, slice_index, Option, Some}
use Rattle.std.specs.List.{IsAmong}
use Rattle.aol_flat.specs.Laid.{Laid}
use Rattle.aol_flat.specs.LeafCursor.{first_on}
use Rattle.aol_flat.specs.Level.{Reads, AreReadsOf, writers_read, above_all}
use Rattle.aol_flat.specs.declared.view.Read.{Read}
use Rattle.aol_depend.specs.MainReads.{AreBare}

-- no level is greater than the number of its instance
pub record AreLow (levels : List ℕ) : Type 0 where
  pub few : length levels < 2 ^ 32
  pub each : (j : ℕ) → j < length levels → slice_index levels j ≤ j

-- an instance that reads this needs only ones that have levels, and its own is above these
pub record IsAbove (levels : List ℕ) (list : List (Option ℕ)) (rs : List Read) (level : ℕ) : Type 0 where
  pub known : (k : ℕ) → IsAmong (writers_read list rs) k → k < length levels
  pub is : level ≡ above_all levels (writers_read list rs)

-- what an instance reads, and its level: it needs earlier instances alone
pub record IsRankedAt (f : Laid) (list : List (Option ℕ)) (levels : List ℕ) (j : ℕ) (rs : List Read) : Type 0 where
  pub reads : AreReadsOf f j rs
  pub earlier : (k : ℕ) → IsAmong (writers_read list rs) k → k < j
  pub level : slice_index levels j ≡ above_all levels (writers_read list rs)

-- the levels of the first n instances
pub record AreRankedBefore (f : Laid) (list : List (Option ℕ)) (n : ℕ) (levels : List ℕ) : Type 0 where
  pub reads : Reads
  pub many_reads : length reads ≡ n
  pub many : length levels ≡ n
  pub low : (j : ℕ) → j < n → slice_index levels j ≤ j
  pub each : (j : ℕ) (rs : List Read) → slice_get reads j ≡ Some rs → IsRankedAt f list levels j rs

-- the levels grow by those of so many instances of a leaf, where no main input has a writer
abbrev pub RanksOf : Laid → ℕ → ℕ → List ℕ → List ℕ → Type 0
RanksOf f leaf number old new = (list : List (Option ℕ)) → AreBare f list → AreRankedBefore f list (first_on f.model leaf) old → AreRankedBefore f list (first_on f.model leaf + number) new

-- by those of all its instances
abbrev pub RanksLeaf : Laid → ℕ → List ℕ → List ℕ → Type 0
RanksLeaf f leaf old new = (list : List (Option ℕ)) → AreBare f list → AreRankedBefore f list (first_on f.model leaf) old → AreRankedBefore f list (first_on f.model (leaf + 1)) new
