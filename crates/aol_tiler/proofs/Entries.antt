-- A vector plus columns times numbers, entry by entry.
use Rattle.std.proofs.Common.{◌≡◌, ℕ, zero, suc, ◌+◌, ◌*◌, ◌^◌, ◌<◌, ◌≤◌, ◌==◌, ℤ, pos, ◌+ℤ◌, ◌*ℤ◌, List, [], ◌∷◌, length, true, refl, sym, ◌∙◌, ap, nat_abs, arith}
use Rattle.std.specs.List.{list_all, AllByRecursion}
use Rattle.std.proofs.Math.IntN.{*ℤ-zero}
use Rattle.std.proofs.lemmas.Int.{ints, to_z-of_z, unsigned_abs-mul}
use Rattle.std.proofs.lemmas.Nat.{mul-le}
use mir.Syntax.{Width}
use mir.Val.{SFits, of_z, to_z}
use Rattle.aol_shape.specs.Vectors.{IsVectorEntry, plus, times, plus_columns}
use Rattle.aol_tiler.specs.Sums.{entry, entry_plus}

-- a number in range is that of its bits
pub to_z_back : (w : Width) (z : ℤ) → SFits w z → to_z w (of_z w z) ≡ z
to_z_back = to_z-of_z

plus_zero : (z : ℤ) → z ≡ z +ℤ pos 0
plus_zero z = omega (arith, ints)

-- past the end of a vector its entries count as 0
entry-plus : (v w : List ℤ) (k : ℕ) → k < length v → entry (plus v w) k ≡ entry v k +ℤ entry w k
entry-plus [] w k h = absurd (omega (arith, h))
entry-plus (z ∷ v) [] k h = plus_zero (entry (z ∷ v) k)
entry-plus (z ∷ v) (x ∷ w) zero h = refl
entry-plus (z ∷ v) (x ∷ w) (suc k) h = entry-plus v w k (omega (arith, h))

entry-times : (x : ℤ) (v : List ℤ) (k : ℕ) → entry (times x v) k ≡ x *ℤ entry v k
entry-times x [] k = sym (*ℤ-zero x)
entry-times x (z ∷ v) zero = refl
entry-times x (z ∷ v) (suc k) = entry-times x v k

pub length-plus : (v w : List ℤ) → length (plus v w) ≡ length v
length-plus [] w = refl
length-plus (z ∷ v) [] = refl
length-plus (z ∷ v) (x ∷ w) = ap suc (length-plus v w)

pub length-times : (x : ℤ) (v : List ℤ) → length (times x v) ≡ length v
length-times x [] = refl
length-times x (z ∷ v) = ap suc (length-times x v)

pub length-plus_columns : (v : List ℤ) (cs : List (List ℤ)) (xs : List ℤ) → length (plus_columns v cs xs) ≡ length v
length-plus_columns v [] xs = refl
length-plus_columns v (c ∷ cs) [] = refl
length-plus_columns v (c ∷ cs) (x ∷ xs) = length-plus_columns (plus v (times x c)) cs xs ∙ length-plus v (times x c)

-- entry k of the sum is the sum of the entries k
pub entry-plus_columns : (v : List ℤ) (cs : List (List ℤ)) (xs : List ℤ) (k : ℕ) → k < length v → entry (plus_columns v cs xs) k ≡ entry_plus (entry v k) cs xs k
entry-plus_columns v [] xs k h = refl
entry-plus_columns v (c ∷ cs) [] k h = refl
entry-plus_columns v (c ∷ cs) (x ∷ xs) k h =
    entry-plus_columns (plus v (times x c)) cs xs k (omega (arith, h, length-plus v (times x c)))
    ∙ ap (λ z. entry_plus z cs xs k) (entry-plus v (times x c) k h ∙ ap (λ z. entry v k +ℤ z) (entry-times x c k))

-- columns of one length have an entry for each dimension
pub long_enough : (cs : List (List ℤ)) (n k : ℕ) → list_all (λ c. length c == n) cs ≡ true → k < n → AllByRecursion (λ c. k < length c) cs
long_enough [] n k h less = tt
long_enough (c ∷ cs) n k h less = grind (arith, long_enough cs n k)

-- a product of two entries is small
pub plus_product_bound : (s n e : ℤ) → IsVectorEntry n → IsVectorEntry e → nat_abs (s +ℤ n *ℤ e) ≤ nat_abs s + 2 ^ 62
plus_product_bound s n e p q =
    let product : nat_abs (n *ℤ e) ≤ 2147483647 * 2147483647 = rw (unsigned_abs-mul n e) (mul-le (nat_abs n) (nat_abs e) 2147483647 2147483647 p q) in
    omega (arith, ints, product)
