-- When sums, products and quotients have 64 bits.
use Rattle.std.specs.Prelude.{◌≡◌, ℕ, zero, suc, ◌+◌, ◌*◌, ◌/◌, ◌%◌, ◌<◌, ◌≤◌, ◌↔◌, ℤ, pos, negsuc, neg_ℤ, ◌+ℤ◌, ◌-ℤ◌, ◌*ℤ◌, ◌≤ℤ◌, int_le, int_lt, int_div, int_rem, nat_abs, T, leb, ltb, true, false, Bool, ◌^◌, ◌-◌}
use Rattle.std.proofs.Common.{arith, refl, ap, sym, ◌∙◌, subst}
use Rattle.std.proofs.Math.Nat.{le-div_iff_mul-le, div-le_self, div-lt_self, div-one, mod-le}
use Rattle.std.proofs.Math.Dec.{leb-zero, leb-suc-zero, leb-suc-suc}
use Rattle.std.proofs.lemmas.Int.{ints}
use Rattle.std.proofs.lemmas.Bool.{lt-ltb, ltb-true, le-leb, leb-true}
use Rattle.aol_shape.specs.Numbers.{fits_64}

-- ---- tests

pub same_test : (p q : Bool) → (p ≡ true → q ≡ true) → (q ≡ true → p ≡ true) → p ≡ q
same_test true true f g = refl
same_test true false f g = sym (f refl)
same_test false true f g = g refl
same_test false false f g = refl

is_true : (b : Bool) → T b → b ≡ true
is_true true h = refl
is_true false h = absurd h

-- the bounds of 64 bits
record InBounds (z : ℤ) : Type 0 where
  low : negsuc (2 ^ 63 - 1) ≤ℤ z
  high : z ≤ℤ pos (2 ^ 63 - 1)

bounds_of : (z : ℤ) → fits_64 z ≡ true → InBounds z
bounds_of (pos n) h = let small : n < 2 ^ 63 = ltb-true n (2 ^ 63) h in record { low = omega (arith, ints); high = omega (arith, ints, small) }
bounds_of (negsuc n) h = let small : n < 2 ^ 63 = ltb-true n (2 ^ 63) h in record { low = omega (arith, ints, small); high = omega (arith, ints) }

fits_of : (z : ℤ) → InBounds z → fits_64 z ≡ true
fits_of (pos n) h = lt-ltb n (2 ^ 63) (omega (arith, ints, h.high))
fits_of (negsuc n) h = lt-ltb n (2 ^ 63) (omega (arith, ints, h.low))

le_of : (a b : ℤ) → int_le a b ≡ true → a ≤ℤ b
le_of a b h = record { le = subst T (sym h) tt }

test_of : (a b : ℤ) → a ≤ℤ b → int_le a b ≡ true
test_of a b h = is_true (int_le a b) h.le

-- ---- sums and differences; the bound less the number is in 64 bits by the number's sign

abbrev pub G : ℤ
G = pos (2 ^ 63 - 1)

abbrev pub L : ℤ
L = negsuc (2 ^ 63 - 1)

module _ (a : ℤ) (n : ℕ) (fits_a : fits_64 a ≡ true) where
  pub plus_up_fits : fits_64 (pos n) ≡ true → fits_64 (G -ℤ pos n) ≡ true
  plus_up_fits h = let b = bounds_of (pos n) h in fits_of (G -ℤ pos n) (record { low = omega (arith, ints, b.high); high = omega (arith, ints) })

  pub plus_up : int_le a (G -ℤ pos n) ≡ fits_64 (a +ℤ pos n)
  plus_up = let b = bounds_of a fits_a in same_test (int_le a (G -ℤ pos n)) (fits_64 (a +ℤ pos n))
      (λ h. let le = le_of a (G -ℤ pos n) h in fits_of (a +ℤ pos n) (record { low = omega (arith, ints, b.low); high = omega (arith, ints, le) }))
      (λ h. let c = bounds_of (a +ℤ pos n) h in test_of a (G -ℤ pos n) (omega (arith, ints, c.high)))

  pub plus_down_fits : fits_64 (negsuc n) ≡ true → fits_64 (L -ℤ negsuc n) ≡ true
  plus_down_fits h = let b = bounds_of (negsuc n) h in fits_of (L -ℤ negsuc n) (record { low = omega (arith, ints); high = omega (arith, ints, b.low) })

  pub plus_down : int_le (L -ℤ negsuc n) a ≡ fits_64 (a +ℤ negsuc n)
  plus_down = let b = bounds_of a fits_a in same_test (int_le (L -ℤ negsuc n) a) (fits_64 (a +ℤ negsuc n))
      (λ h. let le = le_of (L -ℤ negsuc n) a h in fits_of (a +ℤ negsuc n) (record { low = omega (arith, ints, le); high = omega (arith, ints, b.high) }))
      (λ h. let c = bounds_of (a +ℤ negsuc n) h in test_of (L -ℤ negsuc n) a (omega (arith, ints, c.low)))

  pub minus_down_fits : fits_64 (pos n) ≡ true → fits_64 (L +ℤ pos n) ≡ true
  minus_down_fits h = let b = bounds_of (pos n) h in fits_of (L +ℤ pos n) (record { low = omega (arith, ints); high = omega (arith, ints, b.high) })

  pub minus_down : int_le (L +ℤ pos n) a ≡ fits_64 (a -ℤ pos n)
  minus_down = let b = bounds_of a fits_a in same_test (int_le (L +ℤ pos n) a) (fits_64 (a -ℤ pos n))
      (λ h. let le = le_of (L +ℤ pos n) a h in fits_of (a -ℤ pos n) (record { low = omega (arith, ints, le); high = omega (arith, ints, b.high) }))
      (λ h. let c = bounds_of (a -ℤ pos n) h in test_of (L +ℤ pos n) a (omega (arith, ints, c.low)))

  pub minus_up_fits : fits_64 (negsuc n) ≡ true → fits_64 (G +ℤ negsuc n) ≡ true
  minus_up_fits h = let b = bounds_of (negsuc n) h in fits_of (G +ℤ negsuc n) (record { low = omega (arith, ints, b.low); high = omega (arith, ints) })

  pub minus_up : int_le a (G +ℤ negsuc n) ≡ fits_64 (a -ℤ negsuc n)
  minus_up = let b = bounds_of a fits_a in same_test (int_le a (G +ℤ negsuc n)) (fits_64 (a -ℤ negsuc n))
      (λ h. let le = le_of a (G +ℤ negsuc n) h in fits_of (a -ℤ negsuc n) (record { low = omega (arith, ints, b.low); high = omega (arith, ints, le) }))
      (λ h. let c = bounds_of (a -ℤ negsuc n) h in test_of a (G +ℤ negsuc n) (omega (arith, ints, c.high)))

-- ---- products, by magnitudes

-- less a magnitude
fits_less : (k : ℕ) → fits_64 (neg_ℤ (pos k)) ≡ leb k (2 ^ 63)
fits_less zero = refl
fits_less (suc k) = refl

less_is : (k : ℕ) → k ≤ 2 ^ 63 → fits_64 (neg_ℤ (pos k)) ≡ true
less_is k h = fits_less k ∙ le-leb k (2 ^ 63) h

below_less : (q m : ℕ) → int_le (neg_ℤ (pos q)) (negsuc m) ≡ leb (suc m) q
below_less zero m = sym (leb-suc-zero m)
below_less (suc q) m = sym (leb-suc-suc m q)

below_none : (q k : ℕ) → int_le (neg_ℤ (pos q)) (pos k) ≡ true
below_none zero k = leb-zero k
below_none (suc q) k = refl

-- a factor is at most a quotient where the product is at most the number
quotient_test : (m n b : ℕ) → leb m (b / suc n) ≡ leb (m * suc n) b
quotient_test m n b =
    let some : 0 < suc n = omega arith in
    let both : (m ≤ b / suc n) ↔ (m * suc n ≤ b) = le-div_iff_mul-le {k = suc n} {x = m} {y = b} some in
    same_test (leb m (b / suc n)) (leb (m * suc n) b)
    (λ h. le-leb (m * suc n) b (both.0 (leb-true m (b / suc n) h)))
    (λ h. le-leb m (b / suc n) (both.1 (leb-true (m * suc n) b h)))

at_most_below : (k : ℕ) → leb k (2 ^ 63 - 1) ≡ ltb k (2 ^ 63)
at_most_below k = same_test (leb k (2 ^ 63 - 1)) (ltb k (2 ^ 63))
    (λ h. let le : k ≤ 2 ^ 63 - 1 = leb-true k (2 ^ 63 - 1) h in lt-ltb k (2 ^ 63) (omega (arith, le)))
    (λ h. let lt : k < 2 ^ 63 = ltb-true k (2 ^ 63) h in le-leb k (2 ^ 63 - 1) (omega (arith, lt)))

-- both from 0 on
pub times_up : (m n : ℕ) → int_le (pos m) (int_div G (pos (suc n))) ≡ fits_64 (pos m *ℤ pos (suc n))
times_up m n = quotient_test m n (2 ^ 63 - 1) ∙ at_most_below (m * suc n)

-- one below 0
pub times_left : (m n : ℕ) → int_le (int_div L (pos (suc n))) (negsuc m) ≡ fits_64 (negsuc m *ℤ pos (suc n))
times_left m n = below_less (2 ^ 63 / suc n) m ∙ (quotient_test (suc m) n (2 ^ 63) ∙ sym (fits_less (suc m * suc n)))

pub times_right : (m n : ℕ) → int_le (int_div L (pos (suc m))) (negsuc n) ≡ fits_64 (pos (suc m) *ℤ negsuc n)
times_right m n =
    let turned : suc n * suc m ≡ suc m * suc n = omega arith in
    below_less (2 ^ 63 / suc m) n ∙ (quotient_test (suc n) m (2 ^ 63) ∙ (ap (λ k. leb k (2 ^ 63)) turned ∙ sym (fits_less (suc m * suc n))))

-- both below 0
pub times_down : (m n : ℕ) → int_le (int_div G (negsuc n)) (negsuc m) ≡ fits_64 (negsuc m *ℤ negsuc n)
times_down m n = below_less ((2 ^ 63 - 1) / suc n) m ∙ (quotient_test (suc m) n (2 ^ 63 - 1) ∙ at_most_below (suc m * suc n))

-- one is 0
pub none_left : (n : ℕ) → (int_le (int_div G (negsuc n)) (pos 0) ≡ true) × (fits_64 (pos 0 *ℤ negsuc n) ≡ true)
none_left n = let none : 0 * suc n ≡ 0 = omega arith in (below_none ((2 ^ 63 - 1) / suc n) 0, ap (λ (k : ℕ). fits_64 (neg_ℤ (pos k))) none)

pub none_right : (m : ℕ) → (int_le (int_div L (pos (suc m))) (pos 0) ≡ true) × (fits_64 (pos (suc m) *ℤ pos 0) ≡ true)
none_right m = let none : suc m * 0 ≡ 0 = omega arith in (below_none (2 ^ 63 / suc m) 0, ap (λ (k : ℕ). fits_64 (pos k)) none)

pub times_none : (a : ℤ) → a *ℤ pos 0 ≡ pos 0
times_none (pos m) = let none : m * 0 ≡ 0 = omega arith in ap pos none
times_none (negsuc m) = let none : suc m * 0 ≡ 0 = omega arith in ap (λ (k : ℕ). neg_ℤ (pos k)) none

-- ---- quotients

small_part : (m n : ℕ) → m < 2 ^ 63 → fits_64 (pos (m / n)) ≡ true
small_part m n h = let le = div-le_self m n in lt-ltb (m / n) (2 ^ 63) (omega (arith, le, h))

less_part : (m n : ℕ) → m ≤ 2 ^ 63 → fits_64 (neg_ℤ (pos (m / n))) ≡ true
less_part m n h = let le = div-le_self m n in less_is (m / n) (omega (arith, le, h))

pub greatest_over : (n : ℕ) → fits_64 (int_div G (pos (suc n))) ≡ true
greatest_over n = small_part (2 ^ 63 - 1) (suc n) (omega arith)

pub greatest_under : (n : ℕ) → fits_64 (int_div G (negsuc n)) ≡ true
greatest_under n = less_part (2 ^ 63 - 1) (suc n) (omega arith)

pub least_over : (n : ℕ) → fits_64 (int_div L (pos (suc n))) ≡ true
least_over n = less_part (2 ^ 63) (suc n) (omega arith)

pub over_positive : (a : ℤ) (n : ℕ) → fits_64 a ≡ true → fits_64 (int_div a (pos (suc n))) ≡ true
over_positive (pos m) n h = small_part m (suc n) (ltb-true m (2 ^ 63) h)
over_positive (negsuc m) n h = let small : m < 2 ^ 63 = ltb-true m (2 ^ 63) h in less_part (suc m) (suc n) (omega (arith, small))

pub over_less : (a : ℤ) (n : ℕ) → fits_64 a ≡ true → fits_64 (int_div a (negsuc (suc n))) ≡ true
over_less (pos m) n h = let small : m < 2 ^ 63 = ltb-true m (2 ^ 63) h in less_part m (suc (suc n)) (omega (arith, small))
over_less (negsuc m) n h =
    let small : m < 2 ^ 63 = ltb-true m (2 ^ 63) h in
    let lt : suc m / suc (suc n) < suc m = div-lt_self {n = suc m} {k = suc (suc n)} (omega arith) (omega arith) in
    lt-ltb (suc m / suc (suc n)) (2 ^ 63) (omega (arith, lt, small))

-- by -1
pub over_minus_one : (a : ℤ) → fits_64 a ≡ true → int_lt L a ≡ fits_64 (int_div a (negsuc 0))
over_minus_one (pos m) h = let small : m < 2 ^ 63 = ltb-true m (2 ^ 63) h in sym (less_part m 1 (omega (arith, small)))
over_minus_one (negsuc m) h =
    let one : suc m / 1 ≡ suc m = div-one (suc m) in
    same_test (ltb m (2 ^ 63 - 1)) (ltb (suc m / 1) (2 ^ 63))
    (λ h. let lt : m < 2 ^ 63 - 1 = ltb-true m (2 ^ 63 - 1) h in lt-ltb (suc m / 1) (2 ^ 63) (omega (arith, one, lt)))
    (λ h. let lt : suc m / 1 < 2 ^ 63 = ltb-true (suc m / 1) (2 ^ 63) h in lt-ltb m (2 ^ 63 - 1) (omega (arith, one, lt)))

-- ---- remainders

pub rest_fits : (a d : ℤ) → fits_64 a ≡ true → fits_64 (int_rem a d) ≡ true
rest_fits (pos m) d h =
    let small : m < 2 ^ 63 = ltb-true m (2 ^ 63) h in
    let le : m % nat_abs d ≤ m = mod-le m (nat_abs d) in
    lt-ltb (m % nat_abs d) (2 ^ 63) (omega (arith, small, le))
rest_fits (negsuc m) d h =
    let small : m < 2 ^ 63 = ltb-true m (2 ^ 63) h in
    let le : suc m % nat_abs d ≤ suc m = mod-le (suc m) (nat_abs d) in
    less_is (suc m % nat_abs d) (omega (arith, small, le))
