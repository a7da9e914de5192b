-- Tilers: which element of an array a repetition's pattern element is.
use Rattle.std.specs.Prelude.{◌≡◌, ℕ, ◌+◌, ◌≤◌, ℤ, pos, List, [], ◌∷◌, ◌++◌, length, map, Bool, true, Option, Some, None, ◌&&◌, ◌==◌, nat_le, nat_abs, if◌then◌else◌}
use Rattle.std.specs.List.{list_all, flat_map, AllByRecursion}
use Rattle.aol_shape.specs.Shape.{rank, points}
use Rattle.aol_shape.specs.Vectors.{IsVector, times, plus_columns, wrapped_point, zeros, max_entry}
use Rattle.aol_tiler.specs.Matrices.{TilerOf}

-- origin and columns are vectors within the limits, and each matrix has at most 12 columns
pub record IsTiler (t : TilerOf) : Type 0 where
  pub origin : IsVector t.origin
  pub paving : length t.paving ≤ 12
  pub fitting : length t.fitting ≤ 12
  pub in_paving : AllByRecursion IsVector t.paving
  pub in_fitting : AllByRecursion IsVector t.fitting

-- origin and columns have so many entries
abbrev pub has_entries : TilerOf → ℕ → Bool
has_entries t rank = length t.origin == rank && list_all (λ c. length c == rank) t.paving && list_all (λ c. length c == rank) t.fitting

-- origin and columns have as many entries as the array
abbrev pub is_over : TilerOf → List ℕ → Bool
is_over t array = has_entries t (length array)

-- the tiler is over the array, with a column for each dimension of the space and of the pattern
abbrev pub fits : TilerOf → List ℕ → List ℕ → List ℕ → Bool
fits t array space pattern = is_over t array && length t.paving == length space && length t.fitting == length pattern

-- the same as a fact
abbrev pub Fits : TilerOf → List ℕ → List ℕ → List ℕ → Type 0
Fits t array space pattern = fits t array space pattern ≡ true

-- indices as whole numbers
abbrev pub integers : List ℕ → List ℤ
integers = map pos

-- the reference element of repetition r and then the fitting columns, before it is taken modulo the array
abbrev pub place : TilerOf → List ℕ → List ℕ → List ℤ
place t r i = plus_columns (plus_columns t.origin t.paving (integers r)) t.fitting (integers i)

-- the point of the array that pattern element i of repetition r is
abbrev pub address_point : TilerOf → List ℕ → List ℕ → List ℕ → List ℕ
address_point t array r i = wrapped_point (place t r i) array

-- its rank
abbrev pub address : TilerOf → List ℕ → List ℕ → List ℕ → ℕ
address t array r i = rank array (address_point t array r i)

-- the addresses of all pairs, repetition by repetition, each in order of rank
abbrev pub addresses : TilerOf → List ℕ → List ℕ → List ℕ → List ℕ
addresses t array space pattern = flat_map (λ r. map (address t array r) (points pattern)) (points space)

-- the zero vector with as many entries
abbrev pub zero_like : List ℤ → List ℤ
zero_like v = map (λ _. pos 0) v

-- an inner tiler over the pattern of an outer one, as one tiler
abbrev pub composed : TilerOf → TilerOf → TilerOf
composed outer inner = record {
  origin = plus_columns outer.origin outer.fitting inner.origin;
  paving = outer.paving ++ map (plus_columns (zero_like outer.origin) outer.fitting) inner.paving;
  fitting = map (plus_columns (zero_like outer.origin) outer.fitting) inner.fitting;
}

-- each column times its number
abbrev pub scaled : List (List ℤ) → List ℕ → List (List ℤ)
scaled [] ks = []
scaled (c ∷ cs) [] = c ∷ cs
scaled (c ∷ cs) (k ∷ ks) = times (pos k) c ∷ scaled cs ks

-- one repetition for each block of repetitions, with the old space's position inside the block as first pattern dimensions
abbrev pub blocked : TilerOf → List ℕ → TilerOf
blocked t block = record { origin = t.origin; paving = scaled t.paving block; fitting = t.paving ++ t.fitting }

-- the tiler at the repetitions that another tiler gives
abbrev pub substituted : TilerOf → TilerOf → TilerOf
substituted t by = record {
  origin = plus_columns t.origin t.paving by.origin;
  paving = map (plus_columns (zero_like t.origin) t.paving) by.paving;
  fitting = map (plus_columns (zero_like t.origin) t.paving) by.fitting ++ t.fitting;
}

-- the unit vectors of a list of dimensions, with `before` zeros in front and `after` zeros after
abbrev pub unit_columns : List ℤ → List ℕ → List ℤ → List (List ℤ)
unit_columns before [] after = []
unit_columns before (n ∷ shape) after = (before ++ pos 1 ∷ zeros shape ++ after) ∷ unit_columns (before ++ pos 0 ∷ []) shape after

-- over the array of both shapes joined: a repetition is a point of the first, a pattern element one of the second
abbrev pub inner_of : List ℕ → List ℕ → TilerOf
inner_of space pattern = record {
  origin = zeros space ++ zeros pattern;
  paving = unit_columns [] space (zeros pattern);
  fitting = unit_columns (zeros space) pattern [];
}

-- the number of the first entry outside the range, counted from k
abbrev pub first_out_of : ℕ → List ℤ → Option ℕ
first_out_of k [] = None
first_out_of k (z ∷ zs) = if nat_le (nat_abs z) max_entry then first_out_of (k + 1) zs else Some k

-- the entries of all columns, one column after another
abbrev pub flat : List (List ℤ) → List ℤ
flat = flat_map (λ c. c)

-- all entries in the order in which they are numbered: origin, paving columns, fitting columns
abbrev pub entries_of : TilerOf → List ℤ
entries_of t = t.origin ++ flat t.paving ++ flat t.fitting

-- the number of the first entry of a tiler outside the range
abbrev pub first_entry_out : TilerOf → Option ℕ
first_entry_out t = first_out_of 0 (entries_of t)
