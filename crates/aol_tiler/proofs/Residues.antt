-- Places kept modulo an array, each entry times the size of what is after it.
use Rattle.std.proofs.Common.{◌≡◌, ℕ, ◌+◌, ◌-◌, ◌*◌, ◌^◌, ◌%◌, ◌<◌, ◌≤◌, ℤ, pos, negsuc, ◌+ℤ◌, ◌*ℤ◌, List, [], ◌∷◌, ◌++◌, length, sum, refl, sym, ◌∙◌, ap, arith, ◌⊎◌, inl, inr}
use Rattle.std.specs.List.{AllByRecursion}
use Rattle.std.specs.Prelude.{nat_le, nat_abs}
use Rattle.std.specs.Int.{int_rem_euclid}
use Rattle.std.proofs.Math.Nat.{mod-eq_of_lt, add-mod_left, add-mod-mod, mod-add-mod, mul-le-mul_left, mul-le-mul_right}
use Rattle.std.proofs.lemmas.Bool.{cases_lt, le-leb, leb-true, false_from_ne_true}
use Rattle.std.proofs.lemmas.Int.{ints, int_rem_euclid_is, unsigned_abs-mul}
use Rattle.std.proofs.lemmas.Nat.{mul-le}
use Rattle.std.proofs.lemmas.List.Sums.{sum_by-cons}
use Rattle.aol_shape.specs.Shape.{size, rank, IsEntry, max_points}
use Rattle.aol_shape.specs.Vectors.{IsVectorEntry, plus, wrapped, wrapped_point}
use Rattle.aol_shape.proofs.Sizes.{size_positive}
use Rattle.aol_tiler.specs.Walk.{added, plus_within, moduli_of, residues}
use Rattle.aol_tiler.proofs.Addresses.{wrapped-below}

-- two numbers added, where they reach the modulus and where they don't
pub added_over : (x y m : ℕ) → m ≤ x + y → added x y m ≡ (x + y) - m
added_over x y m h = rw (le-leb m (x + y) h) refl

pub added_under : (x y m : ℕ) → x + y < m → added x y m ≡ x + y
added_under x y m h = rw (false_from_ne_true (nat_le m (x + y)) (λ e. absurd (omega (arith, h, leb-true m (x + y) e)))) refl

-- so it is the sum modulo the modulus
added-mod : (x y n : ℕ) → x < n → y < n → added x y n ≡ (x + y) % n
added-mod x y n h k = by_case (cases_lt (x + y) n)
  where
    by_case : (x + y < n) ⊎ (n ≤ x + y) → added x y n ≡ (x + y) % n
    by_case (inl under) = added_under x y n under ∙ sym (mod-eq_of_lt under)
    by_case (inr over) =
        let small : ((x + y) - n) % n ≡ (x + y) - n = mod-eq_of_lt (omega (arith, h, k, over)) in
        let whole : n + ((x + y) - n) ≡ x + y = omega (arith, over) in
        added_over x y n over ∙ sym small ∙ sym (add-mod_left n ((x + y) - n)) ∙ ap (λ j. j % n) whole

-- and it may be multiplied
over_times : (x y n s k : ℕ) → x + y ≡ n + k → (x * s + y * s) - n * s ≡ k * s
over_times x y n s k e = omega (arith, ap (λ j. j * s) e)

added-times : (x y n s : ℕ) → 0 < s → added (x * s) (y * s) (n * s) ≡ added x y n * s
added-times x y n s h = by_case (cases_lt (x + y) n)
  where
    by_case : (x + y < n) ⊎ (n ≤ x + y) → added (x * s) (y * s) (n * s) ≡ added x y n * s
    by_case (inl under) =
        let less : (x + y + 1) * s ≤ n * s = mul-le-mul_right s (omega (arith, under)) in
        added_under (x * s) (y * s) (n * s) (omega (arith, h, less)) ∙ omega arith ∙ ap (λ r. r * s) (sym (added_under x y n under))
    by_case (inr over) =
        let less : n * s ≤ (x + y) * s = mul-le-mul_right s over in
        added_over (x * s) (y * s) (n * s) (omega (arith, less)) ∙ over_times x y n s ((x + y) - n) (omega (arith, over)) ∙ ap (λ r. r * s) (sym (added_over x y n over))

-- a number plus multiples of the modulus
pub record Lifted (z : ℤ) (n : ℕ) : Type 0 where
  pub times : ℕ
  pub number : ℕ
  pub is : z +ℤ pos (times * n) ≡ pos number

lifted : (z : ℤ) (n : ℕ) → 0 < n → Lifted z n
lifted (pos a) n h = record { times = 0; number = a; is = omega (arith, ints) }
lifted (negsuc a) n h = record { times = a + 1; number = (a + 1) * n - (a + 1); is = let some : (a + 1) * 1 ≤ (a + 1) * n = mul-le-mul_left (a + 1) h in omega (arith, ints, some) }

wrapped-rem : (z : ℤ) (n : ℕ) → int_rem_euclid z (pos n) ≡ pos (wrapped z n)
wrapped-rem (pos a) n = refl
wrapped-rem (negsuc a) n = refl

wrapped_is : (z : ℤ) (n k m : ℕ) → 0 < n → z +ℤ pos (k * n) ≡ pos m → wrapped z n ≡ m % n
wrapped_is z n k m h e = same (sym (wrapped-rem z n) ∙ int_rem_euclid_is z (pos n) n k m h refl e)
  where
    same : {a b : ℕ} → pos a ≡ pos b → a ≡ b
    same f = cc

-- two numbers added modulo n
pub wrapped-plus : (z w : ℤ) (n : ℕ) → 0 < n → added (wrapped z n) (wrapped w n) n ≡ wrapped (z +ℤ w) n
wrapped-plus z w n h =
    let a = lifted z n h in
    let b = lifted w n h in
    let whole : (z +ℤ w) +ℤ pos ((a.times + b.times) * n) ≡ pos (a.number + b.number) = omega (arith, ints, a.is, b.is) in
    added-mod (wrapped z n) (wrapped w n) n (wrapped-below z n h) (wrapped-below w n h)
    ∙ ap (λ x. (x + wrapped w n) % n) (wrapped_is z n a.times a.number h a.is)
    ∙ ap (λ y. (a.number % n + y) % n) (wrapped_is w n b.times b.number h b.is)
    ∙ mod-add-mod a.number n (b.number % n)
    ∙ add-mod-mod a.number b.number n
    ∙ sym (wrapped_is (z +ℤ w) n (a.times + b.times) (a.number + b.number) h whole)

-- a step added to a place, whatever stands after the step
pub residues-plus : (array : List ℕ) (z w : List ℤ) (pad : List ℕ) → AllByRecursion IsEntry array → length z ≡ length array → length w ≡ length array
    → plus_within (residues array z) (moduli_of array) (residues array w ++ pad) ≡ residues array (plus z w)
residues-plus [] z w pad p e f = refl
residues-plus (n ∷ array) [] w pad p e f = absurd (omega (arith, e))
residues-plus (n ∷ array) (x ∷ z) [] pad p e f = absurd (omega (arith, f))
residues-plus (n ∷ array) (x ∷ z) (y ∷ w) pad p e f =
    let first : added (wrapped x n * size array) (wrapped y n * size array) (n * size array) ≡ wrapped (x +ℤ y) n * size array =
    added-times (wrapped x n) (wrapped y n) n (size array) (size_positive array p.1) ∙ ap (λ r. r * size array) (wrapped-plus x y n (omega (arith, p.0.0))) in
    let rest = residues-plus array z w pad p.1 (omega (arith, e)) (omega (arith, f)) in
    ap (λ r. r ∷ plus_within (residues array z) (moduli_of array) (residues array w ++ pad)) first ∙ ap (λ q. wrapped (x +ℤ y) n * size array ∷ q) rest

-- the sum is the rank
pub residues_rank : (array : List ℕ) (z : List ℤ) → sum (residues array z) ≡ rank array (wrapped_point z array)
residues_rank [] [] = refl
residues_rank [] (x ∷ z) = refl
residues_rank (n ∷ array) [] = refl
residues_rank (n ∷ array) (x ∷ z) = sum_by-cons (λ r. r) (wrapped x n * size array) (residues array z) ∙ ap (λ r. wrapped x n * size array + r) (residues_rank array z)

-- an entry times a factor is small
pub scaled_small : (f e : ℤ) → nat_abs f ≤ max_points → IsVectorEntry e → nat_abs (f *ℤ e) ≤ 2 ^ 54
scaled_small f e p q =
    let product : nat_abs (f *ℤ e) ≤ 4194304 * 2147483647 = rw (unsigned_abs-mul f e) (mul-le (nat_abs f) (nat_abs e) 4194304 2147483647 p q) in
    omega (arith, product)
