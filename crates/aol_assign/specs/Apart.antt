-- Tilers whose columns count in mixed radix, so that different pairs write different points.
use Rattle.std.specs.Prelude.{◌≡◌, ◌⊎◌, ◌<◌, ◌+◌, ◌-◌, ◌*◌, ℕ, ℤ, pos, List, [], ◌∷◌, length, slice_index}
use Rattle.aol_shape.specs.Shape.{IsPointOf}
use Rattle.aol_tiler.specs.Matrices.{TilerOf}
use Rattle.aol_tiler.specs.Sums.{entry}
use Rattle.aol_tiler.specs.Tiler.{address_point}

-- a column after which sums go up to `inner`: it has one index alone, moves nothing, or moves further than those; with it they go up to `outer`
pub data Steps (z : ℤ) (e inner outer : ℕ) : Type 0 where
  once : e ≡ 1 → outer ≡ inner → Steps z e inner outer
  still : z ≡ pos 0 → outer ≡ inner → Steps z e inner outer
  further : (c : ℕ) → z ≡ pos c → inner < c → outer ≡ inner + c * (e - 1) → Steps z e inner outer

-- columns do so one after another, each in dimension k, the last one first
abbrev pub Counts : List (List ℤ) → List ℕ → ℕ → ℕ → ℕ → Type 0
Counts [] es k inner outer = outer ≡ inner
Counts (c ∷ cs) [] k inner outer = outer ≡ inner
Counts (c ∷ cs) (e ∷ es) k inner outer = (middle : ℕ) × Counts cs es k inner middle × Steps (entry c k) e middle outer

-- in dimension k of the array all columns count, and stay below its extent
pub record CountsIn (t : TilerOf) (array space pattern : List ℕ) (k : ℕ) : Type 0 where
  pub inner : ℕ
  pub outer : ℕ
  pub fitting : Counts t.fitting pattern k 0 inner
  pub paving : Counts t.paving space k inner outer
  pub below : outer < slice_index array k

-- the column moves something
abbrev pub Moves : List ℤ → Type 0
Moves c = (k : ℕ) × (k < length c) × (entry c k ≡ pos 0 → ⊥)

-- each column that has more than one index does
abbrev pub EachMoves : List (List ℤ) → List ℕ → Type 0
EachMoves [] es = Unit {0}
EachMoves (c ∷ cs) [] = Unit {0}
EachMoves (c ∷ cs) (e ∷ es) = ((e ≡ 1) ⊎ Moves c) × EachMoves cs es

-- different pairs have different points
abbrev pub WritesApart : TilerOf → List ℕ → List ℕ → List ℕ → Type 0
WritesApart t array space pattern =
    (r i s j : List ℕ) → IsPointOf space r → IsPointOf pattern i → IsPointOf space s → IsPointOf pattern j → address_point t array r i ≡ address_point t array s j → (r ≡ s) × (i ≡ j)
