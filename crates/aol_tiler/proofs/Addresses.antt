-- The point of an address, index by index, and its rank.
use Rattle.std.proofs.Common.{◌≡◌, ℕ, ◌<◌, ◌==◌, ℤ, pos, negsuc, Bool, true, false, ◌&&◌, List, length, refl, ◌∙◌, ap, arith}
use Rattle.std.specs.List.{list_all, AllByRecursion}
use Rattle.std.proofs.lemmas.Bool.{eqb-true, false≢true}
use Rattle.std.proofs.Math.Nat.{mod-lt}
use Rattle.aol_shape.specs.Vectors.{plus_columns, wrapped}
use Rattle.aol_tiler.specs.Sums.{entry, entry_plus}
use Rattle.aol_tiler.specs.Matrices.{TilerOf}
use Rattle.aol_tiler.specs.Tiler.{Fits, has_entries, integers, place}
use Rattle.aol_tiler.proofs.Entries.{long_enough, entry-plus_columns, length-plus_columns}

pub wrapped-below : (z : ℤ) (n : ℕ) → 0 < n → wrapped z n < n
wrapped-below (pos a) n h = mod-lt a h
wrapped-below (negsuc a) n h = omega (arith, h)

pub both : (a b : Bool) → (a && b) ≡ true → (a ≡ true) × (b ≡ true)
both true b h = (refl, h)
both false b h = absurd (false≢true h)

-- what it says that a tiler is over an array
pub record IsEven (t : TilerOf) (n : ℕ) : Type 0 where
  pub origin : length t.origin ≡ n
  pub paving : list_all (λ c. length c == n) t.paving ≡ true
  pub fitting : list_all (λ c. length c == n) t.fitting ≡ true

pub even : (t : TilerOf) (n : ℕ) → has_entries t n ≡ true → IsEven t n
even t n h =
    let front = both (length t.origin == n && list_all (λ c. length c == n) t.paving) (list_all (λ c. length c == n) t.fitting) h in
    let first = both (length t.origin == n) (list_all (λ c. length c == n) t.paving) front.0 in
    record { origin = eqb-true (length t.origin) n first.0; paving = first.1; fitting = front.1 }

module _ (t : TilerOf) (n k : ℕ) (over : has_entries t n ≡ true) (h : k < n) where
  pub paving_long : AllByRecursion (λ c. k < length c) t.paving
  paving_long = long_enough t.paving n k (even t n over).paving h

  pub fitting_long : AllByRecursion (λ c. k < length c) t.fitting
  fitting_long = long_enough t.fitting n k (even t n over).fitting h

  -- an entry of the place is the origin's, plus those of the columns
  pub entry-place : (r i : List ℕ) → entry (place t r i) k ≡ entry_plus (entry_plus (entry t.origin k) t.paving (integers r) k) t.fitting (integers i) k
  entry-place r i =
      let inside : k < length t.origin = omega (arith, h, (even t n over).origin) in
      let reference = plus_columns t.origin t.paving (integers r) in
      entry-plus_columns reference t.fitting (integers i) k (omega (arith, inside, length-plus_columns t.origin t.paving (integers r)))
      ∙ ap (λ z. entry_plus z t.fitting (integers i) k) (entry-plus_columns t.origin t.paving (integers r) k inside)

-- a place has as many entries as the origin
pub length-place : (t : TilerOf) (n : ℕ) (r i : List ℕ) → has_entries t n ≡ true → length (place t r i) ≡ n
length-place t n r i over =
    length-plus_columns (plus_columns t.origin t.paving (integers r)) t.fitting (integers i)
    ∙ length-plus_columns t.origin t.paving (integers r)
    ∙ (even t n over).origin

-- what it says that a tiler fits
pub record FitsParts (t : TilerOf) (array space pattern : List ℕ) : Type 0 where
  pub over : has_entries t (length array) ≡ true
  pub paving : length t.paving ≡ length space
  pub fitting : length t.fitting ≡ length pattern

pub fits-parts : (t : TilerOf) (array space pattern : List ℕ) → Fits t array space pattern → FitsParts t array space pattern
fits-parts t array space pattern h =
    let outer = both (has_entries t (length array) && length t.paving == length space) (length t.fitting == length pattern) h in
    let inner = both (has_entries t (length array)) (length t.paving == length space) outer.0 in
    record { over = inner.0; paving = eqb-true (length t.paving) (length space) inner.1; fitting = eqb-true (length t.fitting) (length pattern) outer.1 }
