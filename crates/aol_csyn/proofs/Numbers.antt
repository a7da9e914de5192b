-- A number's text says which number it is, and where it ends.
use Rattle.std.specs.Prelude.{◌≡◌, ℕ, ◌+◌, ◌%◌, ◌^◌, ◌<◌, Bool, true, false, ◌&&◌, nat_le, ◌==◌, List, [], ◌∷◌, ◌++◌, length, codes, decimal, ℤ, pos, negsuc, if◌then◌else◌, ◌⊎◌}
use Rattle.std.proofs.Common.{subst, sym, refl, ap, arith, ◌∙◌, append_assoc, inl, inr}
use Rattle.std.proofs.lemmas.Fmt.{decimal_injective, decimal_by_steps, decimal_nonempty}
use Rattle.std.specs.Fmt.{digits}
use Rattle.aol_shape.specs.Numbers.{fits_64}
use Rattle.aol_csyn.specs.Text.{number_text}

abbrev pub is_digit : ℕ → Bool
is_digit b = nat_le 48 b && nat_le b 57

abbrev pub AreDigits : List ℕ → Type 0
AreDigits [] = Unit {0}
AreDigits (b ∷ bs) = (is_digit b ≡ true) × AreDigits bs

digits_more : (bs cs : List ℕ) → AreDigits bs → AreDigits cs → AreDigits (bs ++ cs)
digits_more [] cs h k = k
digits_more (b ∷ bs) cs h k = (h.0, digits_more bs cs h.1 k)

digit_is : (n : ℕ) → n < 10 → is_digit (48 + n) ≡ true
digit_is n h = grind (arith, h)

rem_small : (n : ℕ) → n % 10 < 10
rem_small n = omega arith

pub decimal_digits : (n : ℕ) → n < 2 ^ 64 → AreDigits (decimal n)
decimal_digits = decimal_by_steps (λ n ds. AreDigits ds) (λ n h. (digit_is n h, tt)) (λ n ds h all. digits_more ds ((48 + n % 10) ∷ []) all (digit_is (n % 10) (rem_small n), tt))

-- texts that begin with two bytes alike
tails : {a b c d : ℕ} {r s : List ℕ} → a ∷ b ∷ r ≡ c ∷ d ∷ s → r ≡ s
tails e = cc

pub same_front : (xs r s : List ℕ) → xs ++ r ≡ xs ++ s → r ≡ s
same_front [] r s e = e
same_front (x ∷ xs) r s e = same_front xs r s (cc)

-- two runs of digits that are followed by other bytes
runs_agree : (xs ys : List ℕ) (c d : ℕ) (r s : List ℕ) → AreDigits xs → AreDigits ys → is_digit c ≡ false → is_digit d ≡ false → xs ++ c ∷ r ≡ ys ++ d ∷ s → (xs ≡ ys) × (c ∷ r ≡ d ∷ s)
runs_agree [] [] c d r s h k hc hd e = (refl, e)
runs_agree [] (y ∷ ys) c d r s h k hc hd e = let same : c ≡ y = cc in let both : is_digit y ≡ true = k.0 in absurd (cc)
runs_agree (x ∷ xs) [] c d r s h k hc hd e = let same : x ≡ d = cc in let both : is_digit x ≡ true = h.0 in absurd (cc)
runs_agree (x ∷ xs) (y ∷ ys) c d r s h k hc hd e =
    let same : x ≡ y = cc in
    let rest : xs ++ c ∷ r ≡ ys ++ d ∷ s = cc in
    let both = runs_agree xs ys c d r s h.1 k.1 hc hd rest in
    let one : xs ≡ ys = both.0 in
    (cc, both.1)

pub decimal_one : (m n c d : ℕ) (r s : List ℕ) → m < 2 ^ 64 → n < 2 ^ 64 → is_digit c ≡ false → is_digit d ≡ false → decimal m ++ c ∷ r ≡ decimal n ++ d ∷ s → (m ≡ n) × (c ∷ r ≡ d ∷ s)
decimal_one m n c d r s hm hn hc hd e =
    let both = runs_agree (decimal m) (decimal n) c d r s (decimal_digits m hm) (decimal_digits n hn) hc hd e in
    (decimal_injective m n hm hn both.0, both.1)

-- a number of a program has at most 64 bits
pub bounds : (n : ℕ) → fits_64 (pos n) ≡ true → n < 2 ^ 63
bounds n h = grind (arith, h)

pub bounds_below : (n : ℕ) → fits_64 (negsuc n) ≡ true → n < 2 ^ 63
bounds_below n h = grind (arith, h)

-- the text of a number, before something
pub pos_text : (n : ℕ) (r : List ℕ) → number_text (pos n) ++ r ≡ decimal n ++ 76 ∷ 76 ∷ r
pos_text n r = append_assoc (decimal n) (codes "LL") r

-- a negative number begins with `(-`
begins_either : (a b : List ℕ) (t : Bool) (r : List ℕ) → (u : List ℕ) × (((if t then 40 ∷ 45 ∷ a else 40 ∷ 45 ∷ b) ++ r) ≡ 40 ∷ 45 ∷ u)
begins_either a b true r = (a ++ r, refl)
begins_either a b false r = (b ++ r, refl)

pub negative_begins_both : (n : ℕ) (r : List ℕ) → (u : List ℕ) × (number_text (negsuc n) ++ r ≡ 40 ∷ 45 ∷ u)
negative_begins_both n r = begins_either (codes "9223372036854775807LL - 1LL)") (decimal (n + 1) ++ codes "LL)") (n == 9223372036854775807) r

negative_begins : (n : ℕ) (r : List ℕ) → (u : List ℕ) × (number_text (negsuc n) ++ r ≡ 40 ∷ u)
negative_begins n r = let both = negative_begins_both n r in (45 ∷ both.0, both.1)

less_than_least : (n : ℕ) (a b : List ℕ) (t : Bool) → t ≡ false → (if t then a else b) ≡ b
less_than_least n a b true h = absurd (cc)
less_than_least n a b false h = refl

test_false : (n : ℕ) → (n ≡ 9223372036854775807 → ⊥) → (n == 9223372036854775807) ≡ false
test_false n h = grind (arith, h)

pub neg_text : (n : ℕ) (r : List ℕ) → (n ≡ 9223372036854775807 → ⊥) → number_text (negsuc n) ++ r ≡ 40 ∷ 45 ∷ decimal (n + 1) ++ 76 ∷ 76 ∷ 41 ∷ r
neg_text n r h =
    ap (λ t. t ++ r) (less_than_least n (codes "(-9223372036854775807LL - 1LL)") (codes "(-" ++ decimal (n + 1) ++ codes "LL)") (n == 9223372036854775807) (test_false n h))
    ∙ ap (λ t. 40 ∷ 45 ∷ t) (append_assoc (decimal (n + 1)) (codes "LL)") r)

pub least_text : (r : List ℕ) → number_text (negsuc 9223372036854775807) ++ r ≡ 40 ∷ 45 ∷ decimal 9223372036854775807 ++ 76 ∷ 76 ∷ 32 ∷ (codes "- 1LL)" ++ r)
unfolding digits
least_text r = refl

decide_least : (n : ℕ) (t : Bool) → (n == 9223372036854775807) ≡ t → (n ≡ 9223372036854775807) ⊎ (n ≡ 9223372036854775807 → ⊥)
decide_least n true h = inl (grind (arith, h))
decide_least n false h = inr (λ e. grind (arith, h, e))

-- the first byte of a number's digits
pub first_digit : (ds : List ℕ) (b : ℕ) (r s : List ℕ) → AreDigits ds → 0 < length ds → ds ++ r ≡ b ∷ s → is_digit b ≡ true
first_digit [] b r s h n e = absurd (omega (arith, n))
first_digit (d ∷ ds) b r s h n e = let same : d ≡ b = cc in let one : is_digit d ≡ true = h.0 in cc

pub nonempty : (n : ℕ) → n < 2 ^ 64 → 0 < length (decimal n)
nonempty = decimal_nonempty

no_bracket : (n : ℕ) (r s : List ℕ) → n < 2 ^ 64 → decimal n ++ r ≡ 40 ∷ s → ⊥
no_bracket n r s h e = let is = first_digit (decimal n) 40 r s (decimal_digits n h) (nonempty n h) e in absurd (cc)

-- the least number's text, at any number that is its size
is_least : (n : ℕ) (r : List ℕ) → n ≡ 9223372036854775807 → number_text (negsuc n) ++ r ≡ 40 ∷ 45 ∷ (decimal n ++ (76 ∷ 76 ∷ 32 ∷ (codes "- 1LL)" ++ r)))
is_least n r h = subst (λ k. number_text (negsuc k) ++ r ≡ 40 ∷ 45 ∷ (decimal k ++ (76 ∷ 76 ∷ 32 ∷ (codes "- 1LL)" ++ r)))) (sym h) (least_text r)

-- no other number's text is the least one's
differ : (m n : ℕ) (r s : List ℕ) → m < 2 ^ 63 → n < 2 ^ 63 → decimal m ++ (76 ∷ 76 ∷ 32 ∷ r) ≡ decimal (n + 1) ++ (76 ∷ 76 ∷ 41 ∷ s) → ⊥
differ m n r s hm hn e =
    let ends = decimal_one m (n + 1) 76 76 (76 ∷ 32 ∷ r) (76 ∷ 41 ∷ s) (omega (arith, hm)) (omega (arith, hn)) refl refl e in
    let rest = ends.1 in absurd (cc)

plain_agree : (m n : ℕ) (r s : List ℕ) → m < 2 ^ 63 → n < 2 ^ 63 → decimal (m + 1) ++ (76 ∷ 76 ∷ 41 ∷ r) ≡ decimal (n + 1) ++ (76 ∷ 76 ∷ 41 ∷ s) → (negsuc m ≡ negsuc n) × (r ≡ s)
plain_agree m n r s hm hn e =
    let ends = decimal_one (m + 1) (n + 1) 76 76 (76 ∷ 41 ∷ r) (76 ∷ 41 ∷ s) (omega (arith, hm)) (omega (arith, hn)) refl refl e in
    let one : m ≡ n = omega (arith, ends.0) in let rest = ends.1 in (ap (λ k. negsuc k) one, cc)

same_negative : (m n : ℕ) (r s : List ℕ) → m ≡ n → number_text (negsuc m) ++ r ≡ number_text (negsuc n) ++ s → (negsuc m ≡ negsuc n) × (r ≡ s)
same_negative m n r s h e = (ap (λ k. negsuc k) h, same_front (number_text (negsuc n)) r s (subst (λ k. number_text (negsuc k) ++ r ≡ number_text (negsuc n) ++ s) h e))

both_least : (m n : ℕ) (r s : List ℕ) → m < 2 ^ 63 → n < 2 ^ 63 → (m ≡ 9223372036854775807) ⊎ (m ≡ 9223372036854775807 → ⊥) → (n ≡ 9223372036854775807) ⊎ (n ≡ 9223372036854775807 → ⊥)
    → number_text (negsuc m) ++ r ≡ number_text (negsuc n) ++ s → (negsuc m ≡ negsuc n) × (r ≡ s)
both_least m n r s hm hn (inl p) (inl q) e = same_negative m n r s (p ∙ sym q) e
both_least m n r s hm hn (inl p) (inr q) e = absurd (differ m n (codes "- 1LL)" ++ r) s hm hn (tails (sym (is_least m r p) ∙ (e ∙ neg_text n s q))))
both_least m n r s hm hn (inr p) (inl q) e = absurd (differ n m (codes "- 1LL)" ++ s) r hn hm (tails (sym (is_least n s q) ∙ (sym e ∙ neg_text m r p))))
both_least m n r s hm hn (inr p) (inr q) e = plain_agree m n r s hm hn (tails (sym (neg_text m r p) ∙ (e ∙ neg_text n s q)))

pub number_one : (y z : ℤ) (r s : List ℕ) → fits_64 y ≡ true → fits_64 z ≡ true → number_text y ++ r ≡ number_text z ++ s → (y ≡ z) × (r ≡ s)
number_one (pos m) (pos n) r s hy hz e =
    let bm = bounds m hy in let bn = bounds n hz in
    let ends = decimal_one m n 76 76 (76 ∷ r) (76 ∷ s) (omega (arith, bm)) (omega (arith, bn)) refl refl (sym (pos_text m r) ∙ (e ∙ pos_text n s)) in
    let rest = ends.1 in (ap (λ k. pos k) ends.0, cc)
number_one (pos m) (negsuc n) r s hy hz e =
    let bm = bounds m hy in let begun = negative_begins n s in
    absurd (no_bracket m (76 ∷ 76 ∷ r) begun.0 (omega (arith, bm)) (sym (pos_text m r) ∙ (e ∙ begun.1)))
number_one (negsuc m) (pos n) r s hy hz e =
    let bn = bounds n hz in let begun = negative_begins m r in
    absurd (no_bracket n (76 ∷ 76 ∷ s) begun.0 (omega (arith, bn)) (sym (pos_text n s) ∙ (sym e ∙ begun.1)))
number_one (negsuc m) (negsuc n) r s hy hz e = both_least m n r s (bounds_below m hy) (bounds_below n hz) (decide_least m (m == 9223372036854775807) refl) (decide_least n (n == 9223372036854775807) refl) e
