-- A run of bytes that join is a lexeme, and digits that are few enough fit.
use Rattle.std.proofs.Common.{◌≡◌, ℕ, zero, suc, ◌+◌, ◌-◌, ◌*◌, ◌^◌, ◌<◌, ◌≤◌, List, [], ◌∷◌, ◌++◌, length, take, drop, get_or, Bool, true, false, not, ◌&&◌, leb, refl, sym, ◌∙◌, ap, subst, arith, lit<}
use Rattle.std.proofs.Math.Nat.{pow-le-pow_right}
use Rattle.std.proofs.lemmas.Bool.{and_parts, and_from, leb-true, false≢true}
use Rattle.std.proofs.lemmas.List.{get_or-drop, length-drop, take-append-drop, drop-drop, length-take, drop_more, drop_all}
use Rattle.aol_shape.specs.Texts.{is_blank, is_digit}
use Rattle.aol_vsl.specs.Reading.{joins}
use Rattle.aol_vsl.proofs.Sound.{by_test}
use Rattle.aol_vsl.proofs.Lexemes.{lexed, lexeme, goes_on, together, last_goes_on, lexed_text, joins_no_blank}

-- another digit after at most 18 fits 64 bits
pub few_digits : (v i : ℕ) → v < 10 ^ i → i < 19 → 10 * v + 9 < 2 ^ 64
few_digits v i h k = let p : 10 ^ i ≤ 10 ^ 18 = pow-le-pow_right {n = 10} (lit< tt) {i = i} {j = 18} (omega (arith, k)) in omega (arith, p, h)

pub digit_most : (b : ℕ) → is_digit b ≡ true → b ≤ 57
digit_most b h = leb-true b 57 (and_parts (leb 48 b) (leb b 57) h).1

joined_no_blank : (b c : ℕ) → joins b c ≡ true → not (is_blank c) ≡ true
joined_no_blank b c j = by_test _ (is_blank c) (λ e. absurd (false≢true (sym (joins_no_blank b c e) ∙ j))) (λ e. ap not e)

together_more : (bs : List ℕ) (m : ℕ) → suc m < length bs → together (take (suc m) bs) ≡ true → joins (get_or bs m 0) (get_or bs (suc m) 0) ≡ true → together (take (suc (suc m)) bs) ≡ true
together_more [] m k h j = absurd (omega (arith, k))
together_more (b ∷ []) m k h j = absurd (omega (arith, k))
together_more (b ∷ c ∷ cs) zero k h j = and_from (not (is_blank b) && joins b c) (not (is_blank c)) (and_from (not (is_blank b)) (joins b c) h j) (joined_no_blank b c j)
together_more (b ∷ c ∷ cs) (suc m) k h j =
    let parts : ((not (is_blank b) && joins b c) ≡ true) × (together (take (suc m) (c ∷ cs)) ≡ true) = and_parts (not (is_blank b) && joins b c) (together (take (suc m) (c ∷ cs))) h in
    and_from (not (is_blank b) && joins b c) (together (take (suc (suc m)) (c ∷ cs))) parts.0 (together_more (c ∷ cs) m (omega (arith, k)) parts.1 j)

last_is : (bs : List ℕ) (m : ℕ) (rest : List ℕ) → m < length bs → last_goes_on (take (suc m) bs) rest ≡ goes_on (get_or bs m 0) rest
last_is [] m rest k = absurd (omega (arith, k))
last_is (b ∷ bs) zero rest k = refl
last_is (b ∷ []) (suc m) rest k = absurd (omega (arith, k))
last_is (b ∷ c ∷ cs) (suc m) rest k = last_is (c ∷ cs) m rest (omega (arith, k))

module _ (text : List ℕ) (start end : ℕ) (some : start < end) (within : end ≤ length text) where
  abbrev before : ℕ
  before = end - start - 1

  count_is : end - start ≡ suc before
  count_is = omega (arith, some)

  last_byte : get_or (drop start text) before 0 ≡ get_or text (end - 1) 0
  last_byte = get_or-drop start text before 0 ∙ ap (λ k. get_or text k 0) (omega (arith, some))

  next_byte : get_or (drop start text) (suc before) 0 ≡ get_or text end 0
  next_byte = get_or-drop start text (suc before) 0 ∙ ap (λ k. get_or text k 0) (omega (arith, some))

  -- a run goes on with a byte that it joins
  pub run_more : end < length text → together (take (end - start) (drop start text)) ≡ true → joins (get_or text (end - 1) 0) (get_or text end 0) ≡ true → together (take (end + 1 - start) (drop start text)) ≡ true
  run_more k h j =
      let t : together (take (suc before) (drop start text)) ≡ true = subst (λ n. together (take n (drop start text)) ≡ true) count_is h in
      let e : joins (get_or (drop start text) before 0) (get_or (drop start text) (suc before) 0) ≡ true = ap (λ b. joins b (get_or (drop start text) (suc before) 0)) last_byte ∙ ap (joins (get_or text (end - 1) 0)) next_byte ∙ j in
      let n : suc (suc before) ≡ end + 1 - start = omega (arith, some) in
      subst (λ n. together (take n (drop start text)) ≡ true) n (together_more (drop start text) before (omega (arith, k, some, length-drop start text)) t e)

  after_is : (rest : List ℕ) → drop end text ≡ rest → goes_on (get_or text (end - 1) 0) rest ≡ false → last_goes_on (take (end - start) (drop start text)) (drop end text) ≡ false
  after_is rest e g =
      ap (λ n. last_goes_on (take n (drop start text)) (drop end text)) count_is
      ∙ last_is (drop start text) before (drop end text) (omega (arith, within, some, length-drop start text))
      ∙ ap (λ b. goes_on b (drop end text)) last_byte
      ∙ ap (goes_on (get_or text (end - 1) 0)) e ∙ g

  -- a run that doesn't go on is a lexeme
  pub run_ends : together (take (end - start) (drop start text)) ≡ true → goes_on (get_or text (end - 1) 0) (drop end text) ≡ false
      → lexed start (drop start text) ≡ lexeme start (take (end - start) (drop start text)) ∷ lexed end (drop end text)
  run_ends h g =
      let n : ℕ = end - start in
      let split : drop start text ≡ take n (drop start text) ++ drop end text = sym (take-append-drop n (drop start text)) ∙ ap (λ bs. take n (drop start text) ++ bs) (drop-drop n start text ∙ ap (λ k. drop k text) (omega (arith, some))) in
      let place : start + length (take n (drop start text)) ≡ end = omega (arith, some, within, length-take n (drop start text), length-drop start text) in
      ap (lexed start) split
      ∙ lexed_text (take n (drop start text)) start (drop end text) h (after_is (drop end text) refl g)
      ∙ ap (λ k. lexeme start (take n (drop start text)) ∷ lexed k (drop end text)) place

  pub goes_on_no : end < length text → joins (get_or text (end - 1) 0) (get_or text end 0) ≡ false → goes_on (get_or text (end - 1) 0) (drop end text) ≡ false
  goes_on_no k j = ap (goes_on (get_or text (end - 1) 0)) (drop_more text end 0 k) ∙ j

-- a run up to the end of the text is a lexeme
pub run_all : (text : List ℕ) (start end : ℕ) → start < end → end ≡ length text → together (take (end - start) (drop start text)) ≡ true
    → lexed start (drop start text) ≡ lexeme start (take (length text - start) (drop start text)) ∷ lexed (length text) (drop (length text) text)
run_all text start end some e h = run_ends text start (length text) (omega (arith, some, e)) (omega arith) (subst (λ n. together (take (n - start) (drop start text)) ≡ true) e h) (ap (goes_on (get_or text (length text - 1) 0)) (drop_all (length text) text (omega arith)))
