-- Numbered names of ports are names.
use Rattle.std.proofs.Common.{◌≡◌, ℕ, ◌≤◌, Bool, true, false, not, ◌&&◌, ◌||◌, nat_le, List, [], ◌∷◌, length, codes, decimal, sym, ◌∙◌, ap, refl, arith}
use Rattle.std.specs.List.{list_all, list_any}
use Rattle.std.proofs.lemmas.Bool.{le-leb, leb-true}
use Rattle.aol_shape.specs.Lists.{same}
use Rattle.aol_shape.specs.Texts.{is_name, is_name_byte, is_letter, is_digit, is_word, max_name, max_digits}
use Rattle.aol_shape.proofs.Numerals.{decimal_digits}
use Rattle.aol_flat.proofs.Names.{both-true, same-equal}
use Rattle.aol_flat.proofs.Truth.{both}
use Rattle.aol_change.specs.declared.tasks.Side.{Side}
use Rattle.aol_change.specs.declared.tasks.Side.TheVariants.{Inputs, Outputs}
use Rattle.aol_fusion_parts.specs.Ports.{port_name}

-- digits are bytes of a name
digits_are_bytes : (ds : List ℕ) → list_all is_digit ds ≡ true → list_all is_name_byte ds ≡ true
digits_are_bytes [] h = refl
digits_are_bytes (d ∷ ds) h =
    let parts = both-true (is_digit d) (list_all is_digit ds) h in
    both (is_name_byte d) (list_all is_name_byte ds) (or_right (is_letter d) (is_digit d) parts.0) (digits_are_bytes ds parts.1)
  where
    or_right : (x y : Bool) → y ≡ true → (x || y) ≡ true
    or_right true y e = refl
    or_right false y e = e

-- a text with a digit is none of the words
not_word : (text : List ℕ) → list_any is_digit text ≡ true → is_word text ≡ false
not_word text h =
    none_of_four (same text (codes "min")) (same text (codes "max")) (same text (codes "if")) (same text (codes "sum"))
    (differs (codes "min") refl) (differs (codes "max") refl) (differs (codes "if") refl) (differs (codes "sum") refl)
  where
    none_of_four : (a b c d : Bool) → a ≡ false → b ≡ false → c ≡ false → d ≡ false → (a || b || c || d) ≡ false
    none_of_four a b c d e f g h = rw (e, f, g, h) refl

    differs : (word : List ℕ) → list_any is_digit word ≡ false → same text word ≡ false
    differs word none = go (same text word) refl
      where
        go : (b : Bool) → same text word ≡ b → same text word ≡ false
        go false e = e
        go true e = let clash : true ≡ false = sym h ∙ (ap (list_any is_digit) (same-equal text word e) ∙ none) in absurd (cc)

-- a letter and digits are a name
letter_and_digits : (letter : ℕ) (ds : List ℕ) → is_letter letter ≡ true → is_digit letter ≡ false → list_all is_digit ds ≡ true → 1 ≤ length ds → length ds ≤ 19 → is_name (letter ∷ ds) ≡ true
letter_and_digits letter [] h n all some few = absurd (omega (arith, some))
letter_and_digits letter (d ∷ ds) h n all some few =
    let text : List ℕ = letter ∷ d ∷ ds in
    let digits = both-true (is_digit d) (list_all is_digit ds) all in
    let bytes : list_all is_name_byte text ≡ true = both (is_name_byte letter) (list_all is_name_byte (d ∷ ds)) (ap (λ b. b || is_digit letter) h) (digits_are_bytes (d ∷ ds) all) in
    let digit : list_any is_digit text ≡ true = ap (λ b. b || (is_digit d || list_any is_digit ds)) n ∙ ap (λ b. b || list_any is_digit ds) digits.0 in
    both (is_letter letter && list_all is_name_byte text && nat_le (length text) max_name) (not (is_word text))
    (both (is_letter letter && list_all is_name_byte text) (nat_le (length text) max_name) (both (is_letter letter) (list_all is_name_byte text) h bytes) (le-leb (length text) max_name (omega (arith, few))))
    (ap not (not_word text digit))

numbered_letter : (letter k : ℕ) → is_letter letter ≡ true → is_digit letter ≡ false → k ≤ 9223372036854775808 → is_name (letter ∷ decimal k) ≡ true
numbered_letter letter k h n few =
    let parts = both-true (nat_le 1 (length (decimal k)) && nat_le (length (decimal k)) max_digits) (list_all is_digit (decimal k)) (decimal_digits k few) in
    let sizes = both-true (nat_le 1 (length (decimal k))) (nat_le (length (decimal k)) max_digits) parts.0 in
    let small : length (decimal k) ≤ 19 = leb-true (length (decimal k)) max_digits sizes.1 in
    letter_and_digits letter (decimal k) h n parts.1 (leb-true 1 (length (decimal k)) sizes.0) small

-- the name of an input or output
pub port_name_is : (side : Side) (k : ℕ) → k ≤ 9223372036854775808 → is_name (port_name side k) ≡ true
port_name_is Inputs k few = numbered_letter 105 k refl refl few
port_name_is Outputs k few = numbered_letter 111 k refl refl few
