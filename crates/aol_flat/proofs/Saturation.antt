-- Sums and products of counts that stop at a greatest number.
use Rattle.std.proofs.Common.{◌≡◌, ℕ, zero, suc, ◌+◌, ◌*◌, ◌-◌, ◌^◌, ◌<◌, ◌≤◌, min, nat_lt, false, sym, ◌∙◌, ap, refl, arith, ◌⊎◌, inl, inr}
use Rattle.std.proofs.lemmas.Bool.Decides.{nat_tests}
use Rattle.aol_flat.specs.Saturated.{saturated}

within_or_over : (n most : ℕ) → (n ≤ most) ⊎ (most ≤ n)
within_or_over n most = grind arith

-- a sum of which a part was capped
cap-sum : (most a b : ℕ) → min (min a most + b) most ≡ min (a + b) most
cap-sum most a b = omega arith

many : (most n b : ℕ) → most ≤ n → most ≤ n * suc b
many most n b h =
    let more : n * suc b ≡ n * b + n = grind arith in
    omega (arith, more, h)

product_over : (most a b : ℕ) → most ≤ a → min (most * b) most ≡ min (a * b) most
product_over most a zero h =
    let one : most * 0 ≡ 0 = grind arith in
    let other : a * 0 ≡ 0 = grind arith in
    rw (one, other) refl
product_over most a (suc b) h = omega (arith, many most most b (omega arith), many most a b h)

-- a product of which a factor was capped
cap-product : (most a b : ℕ) → min (min a most * b) most ≡ min (a * b) most
cap-product most a b =
    elim (within_or_over a most) [
      | inl h ↦ let same : min a most ≡ a = omega arith in rw same refl
      | inr h ↦ let same : min a most ≡ most = omega arith in rw same (product_over most a b h)
    ]

-- a sum of saturated counts
pub saturated-add : (a b : ℕ) → saturated (saturated a + saturated b) ≡ saturated (a + b)
saturated-add a b = omega arith

pub saturated-add_left : (a b : ℕ) → saturated (saturated a + b) ≡ saturated (a + b)
saturated-add_left a b = cap-sum (2 ^ 64 - 1) a b

pub saturated-add_right : (a b : ℕ) → saturated (a + saturated b) ≡ saturated (a + b)
saturated-add_right a b = omega arith

-- a product of saturated counts
pub saturated-mul_left : (a b : ℕ) → saturated (saturated a * b) ≡ saturated (a * b)
saturated-mul_left a b = cap-product (2 ^ 64 - 1) a b

pub saturated-mul : (a b : ℕ) → saturated (saturated a * saturated b) ≡ saturated (a * b)
saturated-mul a b =
    let turned : a * saturated b ≡ saturated b * a = grind arith in
    let back : b * a ≡ a * b = grind arith in
    saturated-mul_left a (saturated b) ∙ (ap saturated turned ∙ (saturated-mul_left b a ∙ ap saturated back))

-- a step of a sum, of a sum of products, and of a product
pub sum_step : (sum new term front whole : ℕ) → sum ≡ saturated front → new ≡ saturated (sum + term) → whole ≡ front + term → new ≡ saturated whole
sum_step sum new term front whole is grown split = grown ∙ (ap (λ s. saturated (s + term)) is ∙ (saturated-add_left front term ∙ ap saturated (sym split)))

pub sum_step_saturated : (sum new term front whole : ℕ) → sum ≡ saturated front → new ≡ saturated (sum + saturated term) → whole ≡ front + term → new ≡ saturated whole
sum_step_saturated sum new term front whole is grown split = sum_step sum new term front whole is (grown ∙ saturated-add_right sum term) split

-- a test against a limit does not see where a count stops
pub test_saturated : (most n : ℕ) → most < 2 ^ 64 - 1 → nat_lt most (saturated n) ≡ nat_lt most n
test_saturated most n h = grind (arith, nat_tests)

-- a count within a limit is exact
pub exact : (most n : ℕ) → most < 2 ^ 64 - 1 → nat_lt most (saturated n) ≡ false → saturated n ≡ n
exact most n h within = let at_most : saturated n ≤ most = grind (arith, nat_tests) in omega arith
