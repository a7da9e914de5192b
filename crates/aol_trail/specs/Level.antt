-- How a level keeps its tiler: by residues modulo its array.
use Rattle.std.specs.Prelude.{◌≡◌, ℕ, ◌+◌, ◌*◌, ◌<◌, ℤ, pos, List, [], ◌∷◌, ◌++◌, take, drop, length, replicate}
use Rattle.aol_shape.specs.Shape.{IsPointOf, IsShape, size, point_at}
use Rattle.aol_shape.specs.Vectors.{plus_columns}
use Rattle.aol_tiler.specs.Matrices.{TilerOf}
use Rattle.aol_tiler.specs.Tiler.{Fits, integers}
use Rattle.aol_tiler.specs.Walk.{moduli_of, residues}

-- so many zeros, at most 12
abbrev pub noughts : ℕ → List ℤ
noughts n = take n (replicate 12 (pos 0))

-- the residues of what an element of the pattern adds to the reference element
abbrev pub offset_at : List (List ℤ) → List ℕ → List ℕ → List ℕ
offset_at columns array i = residues array (plus_columns (noughts (length array)) columns (integers i))

-- these are the offsets of the first elements of a pattern, one after another
pub record AreOffsets (columns : List (List ℤ)) (array pattern : List ℕ) (count : ℕ) (offsets : List ℕ) : Type 0 where
  pub many : length offsets ≡ count * length array
  pub each : (x : ℕ) → x < count → take (length array) (drop (x * length array) offsets) ≡ offset_at columns array (point_at pattern x)

-- the last of some columns
abbrev pub last_of : List (List ℤ) → List (List ℤ)
last_of [] = []
last_of (c ∷ []) = c ∷ []
last_of (c ∷ (d ∷ cs)) = last_of (d ∷ cs)

-- the residues of what one more repetition in the last dimension adds
abbrev pub step_of : List (List ℤ) → List ℕ → List ℕ
step_of paving array = residues array (plus_columns (noughts (length array)) (last_of paving) (pos 1 ∷ []))

-- the last index is one more, and the others are the same
pub record IsNextIn (old new : List ℕ) : Type 0 where
  pub front : List ℕ
  pub last : ℕ
  pub old_is : old ≡ front ++ last ∷ []
  pub new_is : new ≡ front ++ (last + 1) ∷ []

-- a level keeps the moduli of its array, the residues of the reference element, what one more repetition in the last dimension adds, and the offsets of all elements
pub record IsLevel (t : TilerOf) (array space pattern r : List ℕ) (rank : ℕ) (moduli place step offsets : List ℕ) : Type 0 where
  pub array_is : IsShape array
  pub space_is : IsShape space
  pub pattern_is : IsShape pattern
  pub fits : Fits t array space pattern
  pub inside : IsPointOf space r
  pub rank_is : rank ≡ length array
  pub moduli_are : take rank moduli ≡ moduli_of array
  pub place_is : take rank place ≡ residues array (plus_columns t.origin t.paving (integers r))
  pub step_is : take rank step ≡ step_of t.paving array
  pub offsets_are : AreOffsets t.fitting array pattern (size pattern) offsets
