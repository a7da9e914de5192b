-- What the makers of tilers ask for, and what they answer.
use Rattle.std.specs.Prelude.{◌≡◌, ℕ, ◌+◌, ◌*◌, ◌<◌, ◌≤◌, ℤ, List, ◌++◌, length, true, Result, Ok, Err, Some, None}
use Rattle.std.specs.List.{AllByRecursion}
use Rattle.aol_shape.specs.Shape.{max_points}
use Rattle.aol_shape.specs.Vectors.{IsVector}
use Rattle.aol_tiler.specs.declared.tiler.TilerRefused.{TilerRefused}
use Rattle.aol_tiler.specs.declared.tiler.TilerRefused.TheVariants.{Entry, NoMemory}
use Rattle.aol_tiler.specs.Matrices.{TilerOf}
use Rattle.aol_tiler.specs.Tiler.{IsTiler, has_entries, flat, first_out_of, first_entry_out}

-- the tiler that is to be made, where all its entries are in range; else the number of the first that isn't; or want of memory
abbrev pub Makes : Result TilerOf TilerRefused → TilerOf → Type 0
Makes (Ok t) made = (t ≡ made) × (first_entry_out made ≡ None) × IsTiler made
Makes (Err (Entry place)) made = first_entry_out made ≡ Some place
Makes (Err NoMemory) made = Unit {0}

-- the vector that is to be made, where all its entries are in range; else the number of the first that isn't, the first entry having the number `place`
abbrev pub MakesVector : ℕ → Result (List ℤ) TilerRefused → List ℤ → Type 0
MakesVector place (Ok v) made = (v ≡ made) × (first_out_of place made ≡ None) × IsVector made
MakesVector place (Err (Entry at)) made = first_out_of place made ≡ Some at
MakesVector place (Err NoMemory) made = ⊥

-- the columns that are to be made stand after the old ones, where all their entries are in range, and the answer is the number of the entry after them; else it is the number of the first that isn't
abbrev pub Extends : Result ℕ TilerRefused → List (List ℤ) → List (List ℤ) → ℕ → List (List ℤ) → Type 0
Extends (Ok next) old new place made = (new ≡ old ++ made) × (next ≡ place + length (flat made)) × (next ≤ place + 12 * length made) × (first_out_of place (flat made) ≡ None) × AllByRecursion IsVector made
Extends (Err (Entry at)) old new place made = first_out_of place (flat made) ≡ Some at
Extends (Err NoMemory) old new place made = Unit {0}

-- no entry was refused
abbrev pub IsNoEntry : Result TilerOf TilerRefused → Type 0
IsNoEntry (Err (Entry place)) = ⊥
IsNoEntry _ = Unit {0}

-- the inner tiler is over the pattern of the outer one, and the matrices of both have room in one
pub record AreComposable (outer inner : TilerOf) : Type 0 where
  pub outer_even : has_entries outer (length outer.origin) ≡ true
  pub inner_even : has_entries inner (length outer.fitting) ≡ true
  pub paving_room : length outer.paving + length inner.paving ≤ 12

-- the block has one entry for each paving column, and both matrices have room in one
pub record IsBlockable (t : TilerOf) (block : List ℕ) : Type 0 where
  pub block_rank : length block ≡ length t.paving
  pub fitting_room : length t.paving + length t.fitting ≤ 12

-- the other tiler is over the repetitions of this one, and both fitting matrices have room in one
pub record AreSubstitutable (t by : TilerOf) : Type 0 where
  pub even : has_entries t (length t.origin) ≡ true
  pub by_even : has_entries by (length t.paving) ≡ true
  pub fitting_room : length by.fitting + length t.fitting ≤ 12

-- an index can be one of a repetition or of a pattern
abbrev pub IsIndex : ℕ → Type 0
IsIndex n = n < max_points

-- the tiler is over the array, and there is one index for each paving column and one for each fitting column
pub record IsAddressed (t : TilerOf) (array r i : List ℕ) : Type 0 where
  pub over : has_entries t (length array) ≡ true
  pub repetition : length r ≡ length t.paving
  pub element : length i ≡ length t.fitting
  pub repetition_small : AllByRecursion IsIndex r
  pub element_small : AllByRecursion IsIndex i
