-- The rank of a wrapped place, entry by entry from the front.
use Rattle.std.proofs.Common.{◌≡◌, ℕ, zero, suc, ◌+◌, ◌*◌, ◌<◌, ◌≤◌, ℤ, List, [], ◌∷◌, length, refl, ap, get_or, drop, arith, add-one, subst}
use Rattle.std.specs.List.{AllByRecursion}
use Rattle.std.proofs.Math.Nat.{mul-le-mul_left}
use Rattle.std.proofs.lemmas.List.{drop_all}
use Rattle.aol_shape.specs.Shape.{size, rank, IsShape, IsEntry}
use Rattle.aol_shape.specs.Vectors.{wrapped, wrapped_point}
use Rattle.aol_shape.proofs.Sizes.{size_positive}
use Rattle.aol_tiler.specs.Sums.{entry}
use Rattle.aol_tiler.proofs.Addresses.{wrapped-below}

-- the rank of what is left from entry k on
abbrev pub rest : List ℕ → List ℤ → ℕ → ℕ
rest array zs k = rank (drop k array) (wrapped_point (drop k zs) (drop k array))

rest_at : (array : List ℕ) (zs : List ℤ) (k : ℕ) → k < length array → k < length zs
    → rest array zs k ≡ wrapped (entry zs k) (get_or array k 0) * size (drop (suc k) array) + rest array zs (suc k)
rest_at [] zs k h g = absurd (omega (arith, h))
rest_at (n ∷ array) [] k h g = absurd (omega (arith, g))
rest_at (n ∷ array) (z ∷ zs) zero h g = refl
rest_at (n ∷ array) (z ∷ zs) (suc k) h g = rest_at array zs k (omega (arith, h)) (omega (arith, g))

size_at : (array : List ℕ) (k : ℕ) → k < length array → size (drop k array) ≡ get_or array k 0 * size (drop (suc k) array)
size_at [] k h = absurd (omega (arith, h))
size_at (n ∷ array) zero h = refl
size_at (n ∷ array) (suc k) h = size_at array k (omega (arith, h))

entry_at : (array : List ℕ) (k : ℕ) → AllByRecursion IsEntry array → k < length array → 0 < get_or array k 0
entry_at [] k p h = absurd (omega (arith, h))
entry_at (n ∷ array) zero p h = p.0.0
entry_at (n ∷ array) (suc k) p h = entry_at array k p.1 (omega (arith, h))

size_left : (array : List ℕ) (k : ℕ) → AllByRecursion IsEntry array → 1 ≤ size (drop k array)
size_left array zero p = size_positive array p
size_left [] (suc k) p = omega arith
size_left (n ∷ array) (suc k) p = size_left array k p.1

-- `acc` is the rank of the first k entries
pub record Ranked (array : List ℕ) (zs : List ℤ) (k acc : ℕ) : Type 0 where
  pub sum : acc * size (drop k array) + rest array zs k ≡ rank array (wrapped_point zs array)
  pub within : (acc + 1) * size (drop k array) ≤ size array

pub ranked_none : (array : List ℕ) (zs : List ℤ) → Ranked array zs 0 0
ranked_none array zs = record { sum = omega arith; within = omega arith }

product_left : (a n w s t : ℕ) → w < n → (a + 1) * (n * s) ≤ t → (a * n + w + 1) * s ≤ t
product_left a n w s t h k = omega (arith, k, mul-le-mul_left s h)

pub ranked_more : (array : List ℕ) (zs : List ℤ) (k acc w : ℕ) → IsShape array → k < length array → length zs ≡ length array → w ≡ wrapped (entry zs k) (get_or array k 0)
    → Ranked array zs k acc → Ranked array zs (k + 1) (acc * get_or array k 0 + w)
ranked_more array zs k acc w shape h g e r =
    let n = get_or array k 0 in
    let s = size (drop (suc k) array) in
    let below : w < n = omega (arith, e, wrapped-below (entry zs k) n (entry_at array k shape.entry h)) in
    let here = rest_at array zs k h (omega (arith, h, g)) in
    rw add-one record {
      sum = omega (arith, r.sum, here, ap (λ x. acc * x) (size_at array k h), ap (λ x. x * s) e);
      within = product_left acc n w s (size array) below (omega (arith, r.within, ap (λ x. (acc + 1) * x) (size_at array k h)));
    }

-- so it is small, and so is the next one
pub ranked_small : (array : List ℕ) (zs : List ℤ) (k acc : ℕ) → IsShape array → Ranked array zs k acc → acc < 4194304
ranked_small array zs k acc shape r = omega (arith, r.within, shape.points, mul-le-mul_left (acc + 1) (size_left array k shape.entry))

-- also before the index is added
pub ranked_product : (array : List ℕ) (zs : List ℤ) (k acc : ℕ) → IsShape array → k < length array → length zs ≡ length array → Ranked array zs k acc → acc * get_or array k 0 < 4194304
ranked_product array zs k acc shape h g r =
    let w = wrapped (entry zs k) (get_or array k 0) in
    omega (arith, ranked_small array zs (k + 1) (acc * get_or array k 0 + w) shape (ranked_more array zs k acc w shape h g refl r))

-- at the end it is the rank of all
pub ranked_all : (array : List ℕ) (zs : List ℤ) (k acc : ℕ) → length array ≤ k → Ranked array zs k acc → (acc ≡ rank array (wrapped_point zs array)) × (acc < size array)
ranked_all array zs k acc h r =
    let none : drop k array ≡ [] = drop_all k array h in
    let sum : acc * size [] + rank [] (wrapped_point (drop k zs) []) ≡ rank array (wrapped_point zs array) =
    subst (λ d. acc * size d + rank d (wrapped_point (drop k zs) d) ≡ rank array (wrapped_point zs array)) none r.sum in
    let within : (acc + 1) * size [] ≤ size array = subst (λ d. (acc + 1) * size d ≤ size array) none r.within in
    (omega (arith, sum), omega (arith, within))
