-- Numbers in decimal digits: what is written is read, and what is read was written.
use Rattle.std.specs.Prelude.{◌≡◌, ℕ, zero, suc, ◌+◌, ◌*◌, ◌-◌, ◌/◌, ◌%◌, ◌^◌, ◌<◌, ◌≤◌, nat_lt, ◌==◌, Bool, true, false, List, [], ◌∷◌, ◌++◌, decimal, Some, None, if◌then◌else◌}
use Rattle.std.proofs.Common.{sym, refl, ap, arith, ◌∙◌, append_assoc}
use Rattle.std.proofs.lemmas.Fmt.{decimal_digit, decimal_step, decimal_by_steps}
use Rattle.aol_cread.specs.Bytes.{found, is_digit, is_clear, more_digits, read_count}
use Rattle.aol_cread.proofs.Formats.{Sound, Complete, some_pair}

digit_low : (b : ℕ) → is_digit b ≡ true → 48 ≤ b
digit_low b h = grind (arith, h)

digit_high : (b : ℕ) → is_digit b ≡ true → b ≤ 57
digit_high b h = grind (arith, h)

digit_is : (n : ℕ) → n < 10 → is_digit (48 + n) ≡ true
digit_is n h = grind (arith, h)

below : (m n : ℕ) → nat_lt m n ≡ true → m < n
below m n h = grind (arith, h)

below_is : (m n : ℕ) → m < n → nat_lt m n ≡ true
below_is m n h = grind (arith, h)

clear_cons : (b : ℕ) (t : List ℕ) → is_digit b ≡ false → is_clear (b ∷ t) ≡ true
clear_cons b t h = ap (λ d. if d then false else true) h

not_digit : (d : Bool) → (if d then false else true) ≡ true → d ≡ false
not_digit true h = absurd (cc)
not_digit false h = refl

-- one more digit at the end
digit_more : (n b : ℕ) → 0 < n → 48 ≤ b → b ≤ 57 → 10 * n + (b - 48) < 2 ^ 64 → decimal (10 * n + (b - 48)) ≡ decimal n ++ b ∷ []
digit_more n b some low high small =
    let m = 10 * n + (b - 48) in
    let tens : m / 10 ≡ n = omega (arith, low, high) in
    let ones : 48 + m % 10 ≡ b = omega (arith, low, high) in
    decimal_step m (omega (arith, some)) small ∙ (ap (λ k. decimal k ++ (48 + m % 10) ∷ []) tens ∙ ap (λ k. decimal n ++ k ∷ []) ones)

module _ (limit : ℕ) (small : limit ≤ 2 ^ 64) where
  -- ---- what is read was written

  record Spelled (n m : ℕ) (t r : List ℕ) : Type 0 where
    same : decimal n ++ t ≡ decimal m ++ r
    fits : m < limit

  more_by_limit : (l : Bool) (n b m : ℕ) (t r : List ℕ) → nat_lt (10 * n + (b - 48)) limit ≡ l → 0 < n → 48 ≤ b → b ≤ 57
      → (if l then more_digits limit (10 * n + (b - 48)) t else None) ≡ Some (m, r)
      → ((10 * n + (b - 48) < limit) → more_digits limit (10 * n + (b - 48)) t ≡ Some (m, r) → Spelled (10 * n + (b - 48)) m t r) → Spelled n m (b ∷ t) r
  more_by_limit false n b m t r is some low high h again = absurd (cc)
  more_by_limit true n b m t r is some low high h again =
      let fits = below (10 * n + (b - 48)) limit is in
      let rest = again fits h in
      record {
        same = sym (append_assoc (decimal n) (b ∷ []) t) ∙ (ap (λ z. z ++ t) (sym (digit_more n b some low high (omega (arith, fits, small)))) ∙ rest.same);
        fits = rest.fits;
      }

  more_by : (d : Bool) (n b m : ℕ) (t r : List ℕ) → is_digit b ≡ d → 0 < n → n < limit
      → (if d then (if nat_lt (10 * n + (b - 48)) limit then more_digits limit (10 * n + (b - 48)) t else None) else Some (n, b ∷ t)) ≡ Some (m, r)
      → ((10 * n + (b - 48) < limit) → more_digits limit (10 * n + (b - 48)) t ≡ Some (m, r) → Spelled (10 * n + (b - 48)) m t r) → Spelled n m (b ∷ t) r
  more_by true n b m t r is some fits h again = more_by_limit (nat_lt (10 * n + (b - 48)) limit) n b m t r refl some (digit_low b is) (digit_high b is) h again
  more_by false n b m t r is some fits h again =
      let both = some_pair h in let one = both.0 in let left = both.1 in
      record { same = ap (λ k. decimal k ++ b ∷ t) one ∙ ap (λ z. decimal m ++ z) left; fits = omega (arith, one, fits) }

  more_spelled : (t : List ℕ) (n m : ℕ) (r : List ℕ) → 0 < n → n < limit → more_digits limit n t ≡ Some (m, r) → Spelled n m t r
  unfolding more_digits
  more_spelled [] n m r some fits h =
      let both = some_pair h in let one = both.0 in let left = both.1 in
      record { same = ap (λ k. decimal k ++ []) one ∙ ap (λ z. decimal m ++ z) left; fits = omega (arith, one, fits) }
  more_spelled (b ∷ t) n m r some fits h =
      more_by (is_digit b) n b m t r refl some fits h (λ low again. more_spelled t (10 * n + (b - 48)) m r (omega (arith, some)) low again)

  module _ (some : 10 ≤ limit) where
    zero_by : (c : Bool) (b m : ℕ) (t r : List ℕ) → b ≡ 48 → (if c then found 0 t else None) ≡ Some (m, r) → (b ∷ t ≡ decimal m ++ r) × (m < limit)
    zero_by false b m t r is h = absurd (cc)
    zero_by true b m t r is h =
        let both = some_pair h in let none = both.0 in let left = both.1 in
        (ap (λ c. c ∷ t) is ∙ (ap (λ z. z ++ t) (sym (decimal_digit 0 (omega arith))) ∙ (ap (λ k. decimal k ++ t) none ∙ ap (λ z. decimal m ++ z) left)), omega (arith, none, some))

    first_by_digit : (d : Bool) (b m : ℕ) (t r : List ℕ) → is_digit b ≡ d → (b ≡ 48 → ⊥) → (if d then more_digits limit (b - 48) t else None) ≡ Some (m, r) → (b ∷ t ≡ decimal m ++ r) × (m < limit)
    first_by_digit false b m t r is apart h = absurd (cc)
    first_by_digit true b m t r is apart h =
        let low = digit_low b is in let high = digit_high b is in
        let more : 0 < b - 48 = grind (arith, low, apart) in
        let rest = more_spelled t (b - 48) m r more (omega (arith, high, some)) h in
        let one : 48 + (b - 48) ≡ b = omega (arith, low) in
        (ap (λ c. c ∷ t) (sym one) ∙ (ap (λ z. z ++ t) (sym (decimal_digit (b - 48) (omega (arith, high)))) ∙ rest.same), rest.fits)

    first_by : (z : Bool) (b m : ℕ) (t r : List ℕ) → (b == 48) ≡ z
        → (if z then (if is_clear t then found 0 t else None) else (if is_digit b then more_digits limit (b - 48) t else None)) ≡ Some (m, r) → (b ∷ t ≡ decimal m ++ r) × (m < limit)
    first_by true b m t r is h = zero_by (is_clear t) b m t r (grind (arith, is)) h
    first_by false b m t r is h = first_by_digit (is_digit b) b m t r refl (λ e. grind (arith, is, e)) h

    pub sound_count : Sound (read_count limit) (λ n r. decimal n ++ r) (λ n. n < limit)
    unfolding read_count
    sound_count [] m r h = absurd (cc)
    sound_count (b ∷ t) m r h = first_by (b == 48) b m t r refl h

  -- ---- what is written is read

  last_by : (d : Bool) (b n : ℕ) (r : List ℕ) → is_digit b ≡ d → d ≡ false → (if d then (if nat_lt (10 * n + (b - 48)) limit then more_digits limit (10 * n + (b - 48)) r else None) else Some (n, b ∷ r)) ≡ Some (n, b ∷ r)
  last_by true b n r is other = absurd (cc)
  last_by false b n r is other = refl

  last_digit : (n : ℕ) (r : List ℕ) → is_clear r ≡ true → more_digits limit n r ≡ Some (n, r)
  unfolding more_digits
  last_digit n [] h = refl
  last_digit n (b ∷ r) h = last_by (is_digit b) b n r refl (not_digit (is_digit b) h)

  next_by : (d l : Bool) (b n m : ℕ) (r : List ℕ) → d ≡ true → l ≡ true → 10 * n + (b - 48) ≡ m
      → (if d then (if l then more_digits limit (10 * n + (b - 48)) r else None) else Some (n, b ∷ r)) ≡ more_digits limit m r
  next_by false l b n m r h k is = absurd (cc)
  next_by true false b n m r h k is = absurd (cc)
  next_by true true b n m r h k is = ap (λ z. more_digits limit z r) is

  next_digit : (n b m : ℕ) (r : List ℕ) → is_digit b ≡ true → 10 * n + (b - 48) ≡ m → m < limit → more_digits limit n (b ∷ r) ≡ more_digits limit m r
  unfolding more_digits
  next_digit n b m r digit is fits = next_by (is_digit b) (nat_lt (10 * n + (b - 48)) limit) b n m r digit (below_is (10 * n + (b - 48)) limit (omega (arith, is, fits))) is

  abbrev IsRead : ℕ → List ℕ → Type 0
  IsRead n ds = (r : List ℕ) → 0 < n → n < limit → read_count limit (ds ++ r) ≡ more_digits limit n r

  one_by : (z d c : Bool) (b n : ℕ) (r : List ℕ) → z ≡ false → d ≡ true → b - 48 ≡ n → (if z then (if c then found 0 r else None) else (if d then more_digits limit (b - 48) r else None)) ≡ more_digits limit n r
  one_by true d c b n r h k is = absurd (cc)
  one_by false false c b n r h k is = absurd (cc)
  one_by false true c b n r h k is = ap (λ z. more_digits limit z r) is

  not_zero : (n : ℕ) → 0 < n → ((48 + n) == 48) ≡ false
  not_zero n h = grind (arith, h)

  one_digit : (n : ℕ) → n < 10 → IsRead n ((48 + n) ∷ [])
  unfolding read_count
  one_digit n low r some fits = one_by ((48 + n) == 48) (is_digit (48 + n)) (is_clear r) (48 + n) n r (not_zero n some) (digit_is n low) (omega arith)

  further_digit : (n : ℕ) (ds : List ℕ) → 10 ≤ n → IsRead (n / 10) ds → IsRead n (ds ++ (48 + n % 10) ∷ [])
  further_digit n ds big again r some fits =
      let last : n % 10 < 10 = omega arith in
      ap (read_count limit) (append_assoc ds ((48 + n % 10) ∷ []) r)
      ∙ (again ((48 + n % 10) ∷ r) (omega (arith, big)) (omega (arith, fits))
      ∙ next_digit (n / 10) (48 + n % 10) n r (digit_is (n % 10) last) (omega arith) fits)

  zero_read : (r : List ℕ) → is_clear r ≡ true → read_count limit (48 ∷ r) ≡ Some (0, r)
  unfolding read_count
  zero_read r h = ap (λ c. if c then found 0 r else None) h

  complete_by : (n : ℕ) → n < 2 ^ 64 → (r : List ℕ) → n < limit → is_clear r ≡ true → read_count limit (decimal n ++ r) ≡ Some (n, r)
  complete_by zero big r fits clear = ap (λ z. read_count limit (z ++ r)) (decimal_digit 0 (omega arith)) ∙ zero_read r clear
  complete_by (suc n) big r fits clear = decimal_by_steps IsRead one_digit further_digit (suc n) big r (omega arith) fits ∙ last_digit (suc n) r clear

  pub complete_count : Complete (read_count limit) (λ n r. decimal n ++ r) (λ n. n < limit)
  complete_count n r fits clear = complete_by n (omega (arith, fits, small)) r fits clear
