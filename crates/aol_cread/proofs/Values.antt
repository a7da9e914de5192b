-- Numbers, operators and expressions: what is written is read, and what is read was written.
use Rattle.std.specs.Prelude.{◌≡◌, ℕ, ◌+◌, ◌-◌, ◌^◌, ◌<◌, ◌≤◌, ◌==◌, Bool, true, false, List, [], ◌∷◌, ◌++◌, length, codes, decimal, ℤ, pos, negsuc, Some, None, option_map, option_and_then, if◌then◌else◌}
use Rattle.std.proofs.Common.{subst, sym, refl, ap, arith, ◌∙◌, inl, inr, ◌⊎◌}
use Rattle.std.proofs.lemmas.Fmt.{decimal_nonempty}
use Rattle.aol_shape.specs.Numbers.{fits_64}
use Rattle.aol_csyn.specs.declared.program.COp.{COp}
use Rattle.aol_csyn.specs.declared.program.COp.TheVariants.{Add, Sub, Mul, Div, Rem, Lt, Le, Eq}
use Rattle.aol_csyn.specs.Text.{number_text, op_text}
use Rattle.aol_csyn.proofs.Numbers.{pos_text, neg_text, least_text, bounds, bounds_below, decimal_digits, AreDigits}
use Rattle.aol_cread.specs.Bytes.{Read, found, expect, choose, after, before, is_digit, is_clear, read_count, negative_from, read_negative, read_positive, read_number, read_op}
use Rattle.aol_cread.proofs.Formats.{split, split_map, some_pair, chosen, expect_sound, Sound, Complete, sound_before, complete_before, sound_choose, sound_mapped, complete_mapped}
use Rattle.aol_cread.proofs.Counts.{sound_count, complete_count}

abbrev pub counts_onto : ℕ → List ℕ → List ℕ
counts_onto n r = decimal n ++ r

-- ---- numbers

abbrev pub number_onto : ℤ → List ℕ → List ℕ
number_onto z r = number_text z ++ r

abbrev pub Fits : ℤ → Type 0
Fits z = fits_64 z ≡ true

fits_pos : (n : ℕ) → n < 2 ^ 63 → Fits (pos n)
fits_pos n h = grind (arith, h)

fits_neg : (n : ℕ) → n < 2 ^ 63 → Fits (negsuc n)
fits_neg n h = grind (arith, h)

pub sound_positive : Sound read_positive number_onto Fits
sound_positive =
    sound_mapped (before (read_count (2 ^ 63)) (codes "LL")) (λ n r. decimal n ++ (codes "LL" ++ r)) (λ n. n < 2 ^ 63) (λ n. pos n) number_onto Fits (λ n r. sym (pos_text n r)) fits_pos
    (sound_before (read_count (2 ^ 63)) counts_onto (λ n. n < 2 ^ 63) (codes "LL") (sound_count (2 ^ 63) (omega arith) (omega arith)))

pub complete_positive : (n : ℕ) (r : List ℕ) → n < 2 ^ 63 → is_clear r ≡ true → read_positive (number_text (pos n) ++ r) ≡ Some (pos n, r)
complete_positive n r h clear =
    ap read_positive (pos_text n r)
    ∙ complete_mapped (before (read_count (2 ^ 63)) (codes "LL")) (λ n r. decimal n ++ (codes "LL" ++ r)) (λ n. n < 2 ^ 63) (λ n. pos n)
    (complete_before (read_count (2 ^ 63)) counts_onto (λ n. n < 2 ^ 63) (codes "LL") (λ r. refl) (complete_count (2 ^ 63) (omega arith))) n r h clear

-- the least number's text, at any number that is its size
is_least : (n : ℕ) (r : List ℕ) → n ≡ 9223372036854775807 → number_text (negsuc n) ++ r ≡ 40 ∷ 45 ∷ (decimal n ++ (76 ∷ 76 ∷ 32 ∷ (codes "- 1LL)" ++ r)))
is_least n r h = subst (λ k. number_text (negsuc k) ++ r ≡ 40 ∷ 45 ∷ (decimal k ++ (76 ∷ 76 ∷ 32 ∷ (codes "- 1LL)" ++ r)))) (sym h) (least_text r)

record Negative (n : ℕ) (t : List ℕ) (z : ℤ) (r : List ℕ) : Type 0 where
  same : 40 ∷ 45 ∷ (decimal n ++ t) ≡ number_text z ++ r
  fits : Fits z

plain_by : (d : Bool) (n : ℕ) (s : List ℕ) (z : ℤ) (r t : List ℕ) → n < 2 ^ 63 → (n == 0) ≡ d → t ≡ 76 ∷ 76 ∷ 41 ∷ s → (if d then None else found (negsuc (n - 1)) s) ≡ Some (z, r) → Negative n t z r
plain_by true n s z r t h is text e = absurd (cc)
plain_by false n s z r t h is text e =
    let both = some_pair e in
    let some : n - 1 + 1 ≡ n = grind (arith, is) in
    let apart : n - 1 ≡ 9223372036854775807 → ⊥ = λ k. grind (arith, k, h) in
    let low : n - 1 < 2 ^ 63 = omega (arith, h) in
    record {
      same = ap (λ q. 40 ∷ 45 ∷ (decimal n ++ q)) text ∙ (ap (λ k. 40 ∷ 45 ∷ (decimal k ++ (76 ∷ 76 ∷ 41 ∷ s))) (sym some)
          ∙ (sym (neg_text (n - 1) s apart) ∙ (ap (λ y. number_text y ++ s) both.0 ∙ ap (λ q. number_text z ++ q) both.1)));
      fits = subst Fits both.0 (fits_neg (n - 1) low);
    }

abbrev minus : ℕ → List ℕ → ℤ × List ℕ
minus n r = (negsuc n, r)

least_by : (d : Bool) (n : ℕ) (z : ℤ) (r t : List ℕ) → n < 2 ^ 63 → (n == 2 ^ 63 - 1) ≡ d → (if d then option_map (minus n) (expect (codes "LL - 1LL)") t) else None) ≡ Some (z, r) → Negative n t z r
least_by false n z r t h is e = absurd (cc)
least_by true n z r t h is e =
    let m = split_map (minus n) (expect (codes "LL - 1LL)") t) (z, r) e in
    let one : negsuc n ≡ z = ap (λ (p : ℤ × List ℕ). p.0) m.gives in
    let left : m.value ≡ r = ap (λ (p : ℤ × List ℕ). p.1) m.gives in
    record {
      same = ap (λ q. 40 ∷ 45 ∷ (decimal n ++ q)) (expect_sound (codes "LL - 1LL)") t m.value m.is)
          ∙ (sym (is_least n m.value (grind (arith, is))) ∙ (ap (λ y. number_text y ++ m.value) one ∙ ap (λ q. number_text z ++ q) left));
      fits = subst Fits one (fits_neg n h);
    }

negative_spelled : (n : ℕ) (t : List ℕ) (z : ℤ) (r : List ℕ) → n < 2 ^ 63 → negative_from n t ≡ Some (z, r) → Negative n t z r
negative_spelled n t z r h e =
    chosen (expect (codes "LL)") t) (λ s. if n == 0 then None else found (negsuc (n - 1)) s) (if n == 2 ^ 63 - 1 then option_map (minus n) (expect (codes "LL - 1LL)") t) else None) (z, r) e
    (λ s is gives. plain_by (n == 0) n s z r t h refl (expect_sound (codes "LL)") t s is) gives)
    (λ gives. least_by (n == 2 ^ 63 - 1) n z r t h refl gives)

pub sound_negative : Sound (after (codes "(-") read_negative) number_onto Fits
sound_negative t z r h =
    let s = split read_negative (expect (codes "(-") t) (z, r) h in
    let q = split (λ (p : ℕ × List ℕ). negative_from p.0 p.1) (read_count (2 ^ 63) s.value) (z, r) s.gives in
    let count = sound_count (2 ^ 63) (omega arith) (omega arith) s.value q.value.0 q.value.1 q.is in
    let low = count.1 in
    let found = negative_spelled q.value.0 q.value.1 z r low q.gives in
    (expect_sound (codes "(-") t s.value s.is ∙ (ap (λ u. 40 ∷ 45 ∷ u) count.0 ∙ found.same), found.fits)

-- a negative number, after `(-`
negative_plain : (d : Bool) (n : ℕ) (s : List ℕ) → d ≡ false → (if d then None else found (negsuc n) s) ≡ Some (negsuc n, s)
negative_plain true n s h = absurd (cc)
negative_plain false n s h = refl

negative_least : (d : Bool) (n : ℕ) (s : List ℕ) → d ≡ true → (if d then option_map (minus n) (Some s) else None) ≡ Some (negsuc n, s)
negative_least true n s h = refl
negative_least false n s h = absurd (cc)

plain_read : (n : ℕ) (s : List ℕ) → negative_from (n + 1) (76 ∷ 76 ∷ 41 ∷ s) ≡ Some (negsuc n, s)
unfolding expect
plain_read n s =
    let one : n + 1 - 1 ≡ n = omega arith in
    ap (λ k. if (n + 1) == 0 then None else found (negsuc k) s) one ∙ negative_plain ((n + 1) == 0) n s (grind arith)

least_read : (n : ℕ) (s : List ℕ) → n ≡ 9223372036854775807 → negative_from n (76 ∷ 76 ∷ 32 ∷ (codes "- 1LL)" ++ s)) ≡ Some (negsuc n, s)
unfolding expect
least_read n s h = negative_least (n == 2 ^ 63 - 1) n s (grind (arith, h))

after_size : (n : ℕ) (t : List ℕ) (z : ℤ) (s : List ℕ) → n < 2 ^ 63 → is_clear t ≡ true → negative_from n t ≡ Some (z, s) → read_negative (decimal n ++ t) ≡ Some (z, s)
after_size n t z s h clear e = ap (option_and_then (λ (p : ℕ × List ℕ). negative_from p.0 p.1)) (complete_count (2 ^ 63) (omega arith) n t h clear) ∙ e

negative_by : (d : Bool) (n : ℕ) (s : List ℕ) → (n == 9223372036854775807) ≡ d → n < 2 ^ 63 → (u : List ℕ) × (number_text (negsuc n) ++ s ≡ 40 ∷ 45 ∷ u) × (read_negative u ≡ Some (negsuc n, s))
negative_by true n s is h =
    let least : n ≡ 9223372036854775807 = grind (arith, is) in
    (decimal n ++ (76 ∷ 76 ∷ 32 ∷ (codes "- 1LL)" ++ s)), is_least n s least, after_size n (76 ∷ 76 ∷ 32 ∷ (codes "- 1LL)" ++ s)) (negsuc n) s h refl (least_read n s least))
negative_by false n s is h =
    let apart : n ≡ 9223372036854775807 → ⊥ = λ k. grind (arith, k, is) in
    (decimal (n + 1) ++ (76 ∷ 76 ∷ 41 ∷ s), neg_text n s apart, after_size (n + 1) (76 ∷ 76 ∷ 41 ∷ s) (negsuc n) s (grind (arith, apart, h)) refl (plain_read n s))

pub complete_negative : (n : ℕ) (s : List ℕ) → n < 2 ^ 63 → (u : List ℕ) × (number_text (negsuc n) ++ s ≡ 40 ∷ 45 ∷ u) × (read_negative u ≡ Some (negsuc n, s))
complete_negative n s h = negative_by (n == 9223372036854775807) n s refl h

pub sound_number : Sound read_number number_onto Fits
unfolding read_number
sound_number = sound_choose read_negative number_onto Fits (codes "(-") read_positive sound_negative sound_positive

-- the first byte of digits is no bracket
pub first_byte : (ds r : List ℕ) → AreDigits ds → 0 < length ds → (b : ℕ) × (u : List ℕ) × (ds ++ r ≡ b ∷ u) × (48 ≤ b) × (b ≤ 57)
first_byte [] r h n = absurd (omega (arith, n))
first_byte (b ∷ ds) r h n = let one : is_digit b ≡ true = h.0 in (b, ds ++ r, refl, grind (arith, one), grind (arith, one))

pub no_front : (b c : ℕ) (xs u : List ℕ) → (b == c) ≡ false → expect (c ∷ xs) (b ∷ u) ≡ None
unfolding expect
no_front b c xs u h = ap (λ (t : Bool). if t then expect xs u else None) h

-- digits do not begin with this byte
pub digits_begin : (n : ℕ) (r : List ℕ) → n < 2 ^ 63 → (c : ℕ) (xs : List ℕ) → (57 < c) ⊎ (c < 48) → expect (c ∷ xs) (decimal n ++ r) ≡ None
digits_begin n r h c xs out =
    let f = first_byte (decimal n) r (decimal_digits n (omega (arith, h))) (decimal_nonempty n (omega (arith, h))) in
    let low = f.3 in let high = f.4 in
    ap (expect (c ∷ xs)) f.2 ∙ no_front f.0 c xs f.1 (elim out [ inl k ↦ grind (arith, k, high) | inr k ↦ grind (arith, k, low) ])

pub complete_number : Complete read_number number_onto Fits
unfolding read_number expect
complete_number (pos n) r fits clear =
    let low = bounds n fits in
    ap (λ o. choose o read_negative (read_positive (number_text (pos n) ++ r))) (ap (expect (codes "(-")) (pos_text n r) ∙ digits_begin n (76 ∷ 76 ∷ r) low 40 (45 ∷ []) (inr (omega arith)))
    ∙ complete_positive n r low clear
complete_number (negsuc n) r fits clear =
    let f = complete_negative n r (bounds_below n fits) in
    ap (λ t. choose (expect (codes "(-") t) read_negative (read_positive t)) f.1 ∙ f.2

-- ---- operators

pub op_onto : COp → List ℕ → List ℕ
op_onto op r = op_text op ++ r

module _ (op : COp) where
  this_op : (t : List ℕ) (o : COp) (r s : List ℕ) → expect (op_text op) t ≡ Some s → found op s ≡ found o r → t ≡ op_text o ++ r
  this_op t o r s is e =
      let both = some_pair e in expect_sound (op_text op) t s is ∙ (ap (λ p. op_text p ++ s) both.0 ∙ ap (λ q. op_text o ++ q) both.1)

  pub or_op : (t : List ℕ) (o : COp) (r : List ℕ) (other : Read COp) → choose (expect (op_text op) t) (found op) other ≡ Some (o, r) → (other ≡ Some (o, r) → t ≡ op_text o ++ r) → t ≡ op_text o ++ r
  or_op t o r other h again = chosen (expect (op_text op) t) (found op) other (o, r) h (λ s is gives. this_op t o r s is gives) again

pub sound_op : (t : List ℕ) (o : COp) (r : List ℕ) → read_op t ≡ Some (o, r) → t ≡ op_text o ++ r
unfolding read_op
sound_op t o r h =
    or_op Add t o r _ h (λ h. or_op Sub t o r _ h (λ h. or_op Mul t o r _ h (λ h. or_op Div t o r _ h (λ h. or_op Rem t o r _ h (λ h. or_op Lt t o r _ h (λ h. or_op Le t o r _ h (λ h. or_op Eq t o r _ h (λ h. absurd (cc)))))))))

pub complete_op : (o : COp) (r : List ℕ) → read_op (op_text o ++ r) ≡ Some (o, r)
unfolding read_op expect
complete_op Add r = refl
complete_op Sub r = refl
complete_op Mul r = refl
complete_op Div r = refl
complete_op Rem r = refl
complete_op Lt r = refl
complete_op Le r = refl
complete_op Eq r = refl

pub op_clear : (o : COp) (r : List ℕ) → is_clear (op_text o ++ r) ≡ true
op_clear Add r = refl
op_clear Sub r = refl
op_clear Mul r = refl
op_clear Div r = refl
op_clear Rem r = refl
op_clear Lt r = refl
op_clear Le r = refl
op_clear Eq r = refl
