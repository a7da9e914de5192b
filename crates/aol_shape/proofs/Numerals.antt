-- The decimal digits of a number are a numeral that says it.
use Rattle.std.proofs.Common.{◌≡◌, ℕ, suc, ◌+◌, ◌-◌, ◌*◌, ◌%◌, ◌^◌, ◌<◌, ◌≤◌, ℤ, pos, negsuc, neg_ℤ, List, [], ◌∷◌, ◌++◌, length, Bool, true, false, cond, ◌&&◌, eqb, leb, ltb, decimal, refl, ◌∙◌, ap, arith}
use Rattle.std.specs.Fmt.{signed_decimal}
use Rattle.std.specs.List.{list_all}
use Rattle.std.proofs.lemmas.Bool.{and_from, and_parts, le-leb, leb-true, ltb-true, ne_eqb}
use Rattle.std.proofs.lemmas.List.{length-append}
use Rattle.std.proofs.lemmas.Fmt.{decimal_by_steps, length-decimal-le}
use Rattle.aol_shape.specs.Numbers.{fits_64}
use Rattle.aol_shape.specs.Texts.{is_digit, are_digits, digits_value, digits_value_from, is_numeral, numeral_value}

pub all_both : (p : ℕ → Bool) (xs ys : List ℕ) → list_all p xs ≡ true → list_all p ys ≡ true → list_all p (xs ++ ys) ≡ true
all_both p [] ys h k = k
all_both p (x ∷ xs) ys h k =
    let parts = and_parts (p x) (list_all p xs) h in
    and_from (p x) (list_all p (xs ++ ys)) parts.0 (all_both p xs ys parts.1 k)

pub value_push : (n : ℕ) (ds : List ℕ) (b : ℕ) → digits_value_from n (ds ++ b ∷ []) ≡ 10 * digits_value_from n ds + (b - 48)
value_push n [] b = refl
value_push n (d ∷ ds) b = value_push (10 * n + (d - 48)) ds b

pub digit_is : (n : ℕ) → n < 10 → is_digit (48 + n) ≡ true
digit_is n h = and_from (leb 48 (48 + n)) (leb (48 + n) 57) (le-leb 48 (48 + n) (omega arith)) (le-leb (48 + n) 57 (omega (arith, h)))

-- digits that say a number
abbrev pub Says : ℕ → List ℕ → Type 0
Says n ds = (list_all is_digit ds ≡ true) × (1 ≤ length ds) × (digits_value ds ≡ n)

pub decimal_says : (n : ℕ) → n < 2 ^ 64 → Says n (decimal n)
decimal_says = decimal_by_steps Says
    (λ n h. (and_from (is_digit (48 + n)) true (digit_is n h) refl, omega arith, omega (arith, h)))
    (λ n ds h s. (all_both is_digit ds ((48 + n % 10) ∷ []) s.0 (and_from (is_digit (48 + n % 10)) true (digit_is (n % 10) (omega arith)) refl), omega (arith, length-append ds ((48 + n % 10) ∷ [])), value_push 0 ds (48 + n % 10) ∙ omega (arith, s.2)))

pub decimal_digits : (n : ℕ) → n ≤ 9223372036854775808 → are_digits (decimal n) ≡ true
decimal_digits n h =
    let s : Says n (decimal n) = decimal_says n (omega (arith, h)) in
    let few : length (decimal n) ≤ 19 = length-decimal-le 19 n (omega arith) (omega (arith, h)) (omega (arith, h)) in
    and_from (leb 1 (length (decimal n)) && leb (length (decimal n)) 19) (list_all is_digit (decimal n)) (and_from (leb 1 (length (decimal n))) (leb (length (decimal n)) 19) (le-leb 1 (length (decimal n)) s.1) (le-leb (length (decimal n)) 19 few)) s.0

-- a numeral, and the number that it says
abbrev pub IsNumeralOf : ℤ → List ℕ → Type 0
IsNumeralOf z n = (is_numeral n ≡ true) × (numeral_value n ≡ z)

pub plain_numeral : (n : ℕ) (ds : List ℕ) → Says n ds → are_digits ds ≡ true → IsNumeralOf (pos n) ds
plain_numeral n [] s h = absurd (omega (arith, s.1))
plain_numeral n (b ∷ bs) s h =
    let digit = (and_parts (is_digit b) (list_all is_digit bs) s.0).0 in
    let minus : eqb b 45 ≡ false = ne_eqb b 45 (λ e. absurd (omega (arith, e, leb-true 48 b (and_parts (leb 48 b) (leb b 57) digit).0))) in
    (ap (λ t. are_digits (cond t bs (b ∷ bs))) minus ∙ h, ap (λ t. cond t (neg_ℤ (pos (digits_value (cond t bs (b ∷ bs))))) (pos (digits_value (b ∷ bs)))) minus ∙ ap pos s.2)

pub signed_numeral : (z : ℤ) → fits_64 z ≡ true → IsNumeralOf z (signed_decimal z)
signed_numeral (pos n) h =
    let below : n < 9223372036854775808 = ltb-true n 9223372036854775808 h in
    plain_numeral n (decimal n) (decimal_says n (omega (arith, below))) (decimal_digits n (omega (arith, below)))
signed_numeral (negsuc n) h =
    let below : n < 9223372036854775808 = ltb-true n 9223372036854775808 h in
    (decimal_digits (suc n) (omega (arith, below)), ap (λ m. neg_ℤ (pos m)) (decimal_says (suc n) (omega (arith, below))).2)
