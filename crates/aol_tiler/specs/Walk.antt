-- Going through the elements of an array pair by pair, by adding columns.
use Rattle.std.specs.Prelude.{◌≡◌, ℕ, zero, suc, ◌+◌, ◌-◌, ◌*◌, ◌≤◌, ℤ, pos, ◌-ℤ◌, List, [], ◌∷◌, ◌++◌, length, replicate, drop, sum, nat_le, ◌==◌, if◌then◌else◌}
use Rattle.std.specs.List.{AllByRecursion}
use Rattle.aol_shape.specs.Shape.{max_points, size}
use Rattle.aol_shape.specs.Vectors.{times, wrapped}
use Rattle.aol_tiler.specs.declared.walker.Column.{Column}

-- two numbers added, modulo a third that is no less than either
abbrev pub added : ℕ → ℕ → ℕ → ℕ
added x y m = if nat_le m (x + y) then (x + y) - m else x + y

-- a step added to a place, entry by entry
abbrev pub plus_within : List ℕ → List ℕ → List ℕ → List ℕ
plus_within [] ms v = []
plus_within (x ∷ p) [] v = x ∷ p
plus_within (x ∷ p) (m ∷ ms) [] = x ∷ p
plus_within (x ∷ p) (m ∷ ms) (y ∷ v) = added x y m ∷ plus_within p ms v

-- the columns at the next pair, the innermost first: those that were added often enough start again, and the next one counts
abbrev pub stepped : List Column → List Column
stepped [] = []
stepped (c ∷ cs) = if c.left == 0 then record c { left = c.last } ∷ stepped cs else record c { left = c.left - 1 } ∷ cs

-- the place at the next pair
abbrev pub moved : List ℕ → List Column → List ℕ → List ℕ
moved ms [] p = p
moved ms (c ∷ cs) p = if c.left == 0 then moved ms cs (plus_within p ms c.back) else plus_within p ms c.step

-- the addresses of so many pairs from this one on
abbrev pub to_come : List ℕ → ℕ → List Column → List ℕ → List ℕ
to_come ms zero cs p = []
to_come ms (suc left) cs p = sum p ∷ to_come ms left (stepped cs) (moved ms cs p)

-- no entry is above its modulus
abbrev pub AreWithin : List ℕ → List ℕ → Type 0
AreWithin [] ms = Unit {0}
AreWithin (x ∷ p) [] = Unit {0}
AreWithin (x ∷ p) (m ∷ ms) = (x ≤ m) × AreWithin p ms

-- what is added for a column is so
pub record IsColumn (ms : List ℕ) (c : Column) : Type 0 where
  pub step : AreWithin c.step ms
  pub back : AreWithin c.back ms

-- moduli, a place and columns are within the limits
pub record IsWalk (ms p : List ℕ) (cs : List Column) : Type 0 where
  pub rank : length ms ≤ 12
  pub same : length p ≡ length ms
  pub small : AllByRecursion (λ m. m ≤ max_points) ms
  pub place : AreWithin p ms
  pub columns : AllByRecursion (IsColumn ms) cs

-- an array's moduli: each entry times the size of what is after it
abbrev pub moduli_of : List ℕ → List ℕ
moduli_of [] = []
moduli_of (n ∷ array) = n * size array ∷ moduli_of array

-- a vector modulo an array, each entry times the size of what is after it
abbrev pub residues : List ℕ → List ℤ → List ℕ
residues [] zs = []
residues (n ∷ array) [] = []
residues (n ∷ array) (z ∷ zs) = wrapped z n * size array ∷ residues array zs

-- after an array's entries there are zeros
abbrev pub padded : List ℕ → List ℕ → List ℕ
padded array xs = xs ++ drop (length array) (replicate 12 0)

-- a column that is yet to be added so often
abbrev pub column_at : List ℕ → List ℤ → ℕ → ℕ → Column
column_at array v entry left = record {
  last = entry - 1;
  left = left;
  step = padded array (residues array (times (pos 1) v));
  back = padded array (residues array (times (pos 1 -ℤ pos entry) v));
}

-- the columns of a matrix at the first point of a shape, the innermost first, before others
abbrev pub columns_on : List ℕ → List (List ℤ) → List ℕ → List Column → List Column
columns_on array [] es others = others
columns_on array (v ∷ vs) [] others = others
columns_on array (v ∷ vs) (e ∷ es) others = columns_on array vs es (column_at array v e (e - 1) ∷ others)
