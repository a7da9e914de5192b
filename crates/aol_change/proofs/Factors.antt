-- The sizes of the two parts of a space.
use Rattle.std.proofs.Common.{◌≡◌, ℕ, zero, suc, ◌+◌, ◌*◌, ◌<◌, ◌≤◌, List, [], ◌∷◌, take, drop, sym, ◌∙◌, ap, arith}
use Rattle.std.proofs.lemmas.List.{take-append-drop}
use Rattle.aol_shape.specs.Shape.{size}
use Rattle.aol_shape.proofs.Sizes.{size_both}

pub factors : (a k : ℕ) → 0 < a * k → (0 < a) × (0 < k) × (a ≤ a * k) × (k ≤ a * k)
factors zero k h = let e : 0 * k ≡ 0 = grind arith in absurd (omega (arith, e, h))
factors (suc a) zero h = let e : suc a * 0 ≡ 0 = grind arith in absurd (omega (arith, e, h))
factors (suc a) (suc k) h =
    let e : suc a * suc k ≡ suc k + a * suc k = grind arith in
    let f : suc a * suc k ≡ suc a + suc a * k = grind arith in
    (omega arith, omega arith, omega (arith, f), omega (arith, e))

parts_are : (xs : List ℕ) (k : ℕ) → size (take k xs) * size (drop k xs) ≡ size xs
parts_are xs k = sym (size_both (take k xs) (drop k xs)) ∙ ap size (take-append-drop k xs)

parts : (xs : List ℕ) (k : ℕ) → 0 < size xs → (0 < size (take k xs)) × (0 < size (drop k xs)) × (size (take k xs) ≤ size xs) × (size (drop k xs) ≤ size xs)
parts xs k h =
    let e = parts_are xs k in
    let f = factors (size (take k xs)) (size (drop k xs)) (omega (arith, e, h)) in
    (f.0, f.1, omega (arith, e, f.2), omega (arith, e, f.3))

pub take_some : (xs : List ℕ) (k : ℕ) → 0 < size xs → 0 < size (take k xs)
take_some xs k h = (parts xs k h).0

pub drop_some : (xs : List ℕ) (k : ℕ) → 0 < size xs → 0 < size (drop k xs)
drop_some xs k h = (parts xs k h).1

pub take_few : (xs : List ℕ) (k : ℕ) → 0 < size xs → size (take k xs) ≤ size xs
take_few xs k h = (parts xs k h).2

pub drop_few : (xs : List ℕ) (k : ℕ) → 0 < size xs → size (drop k xs) ≤ size xs
drop_few xs k h = (parts xs k h).3

pub drop_twice : (xs : List ℕ) (k r : ℕ) → drop r (drop k xs) ≡ drop (k + r) xs
drop_twice xs zero r = let e : 0 + r ≡ r = omega arith in ap (λ n. drop n xs) (sym e)
drop_twice [] (suc k) zero = let e : suc k + 0 ≡ suc (k + 0) = omega arith in ap (λ n. drop {A = ℕ} n []) (sym e)
drop_twice [] (suc k) (suc r) = let e : suc k + suc r ≡ suc (k + suc r) = omega arith in ap (λ n. drop {A = ℕ} n []) (sym e)
drop_twice (x ∷ xs) (suc k) r = let e : suc k + r ≡ suc (k + r) = omega arith in drop_twice xs k r ∙ ap (λ n. drop n (x ∷ xs)) (sym e)
