-- Gathering what each instance needs.
use Rattle.std.specs.Prelude.{◌≡◌, ◌<◌, ℕ, List, map, length, slice_get, Option, Some}
use Rattle.aol_flat.specs.Instance.{instances}
use Rattle.aol_flat.specs.Laid.{Laid}
use Rattle.aol_flat.specs.Level.{Reads, AreReadsOf, AreReads, writers_read}
use Rattle.aol_flat.specs.declared.view.Read.{Read}
use Rattle.aol_flat.specs.declared.view.Read.TheVariants.{Cell, Const}
use Rattle.aol_depend.specs.Needs.{Rows}
use Rattle.aol_depend.specs.Rows.{AreStarts, rows_of}

-- a cell that is read has its entry in the list of writers
abbrev pub IsInList : List (Option ℕ) → Read → Type 0
IsInList writer_of (Cell c) = c < length writer_of
IsInList writer_of (Const n) = Unit {0}

-- one entry for each cell, each naming an instance or none
pub record AreEntries (f : Laid) (list : List (Option ℕ)) : Type 0 where
  pub many : length list ≡ length f.cells
  pub each : (c j : ℕ) → slice_get list c ≡ Some (Some j) → j < length (instances f.model)

-- rows of the instances that the first n instances need, by what they read and the writer of each cell
pub record AreGathered (f : Laid) (list : List (Option ℕ)) (n : ℕ) (starts needed : List ℕ) : Type 0 where
  pub rows : AreStarts starts needed
  pub reads : Reads
  pub many : length reads ≡ n
  pub each : (j : ℕ) (rs : List Read) → slice_get reads j ≡ Some rs → AreReadsOf f j rs
  pub are : rows_of starts needed ≡ map (writers_read list) reads

-- the instances that each instance needs
abbrev pub AreNeeds : Laid → List (Option ℕ) → Rows → Type 0
AreNeeds f list needs = (reads : Reads) × AreReads f reads × (needs ≡ map (writers_read list) reads)
