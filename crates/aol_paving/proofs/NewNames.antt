-- A new name that isn't too long is a name.
use Rattle.std.proofs.Common.{◌≡◌, ℕ, zero, suc, ◌+◌, ◌≤◌, Bool, true, false, cond, not, ◌&&◌, ◌||◌, ◌==◌, nat_lt, nat_le, List, [], ◌∷◌, ◌++◌, length, Some, None, codes, decimal, sym, ◌∙◌, ap, refl, arith}
use Rattle.std.specs.List.{list_all, list_any}
use Rattle.std.proofs.lemmas.Bool.{ltb-false, le-leb}
use Rattle.std.proofs.lemmas.List.Folds.{list_all-append, list_any-append}
use Rattle.aol_shape.specs.declared.limit.LimitName.TheVariants as limits
use Rattle.aol_shape.specs.Lists.{same}
use Rattle.aol_shape.specs.Texts.{is_name, is_name_byte, is_letter, is_digit, is_word, max_name, max_digits}
use Rattle.aol_shape.proofs.Numerals.{decimal_digits}
use Rattle.aol_flat.proofs.Names.{both-true, same-equal}
use Rattle.aol_flat.proofs.Truth.{both}
use Rattle.aol_change.specs.Change.{numbered, name_limit, is_taken, free_number}

-- digits are bytes of a name
digits_are_bytes : (ds : List ℕ) → list_all is_digit ds ≡ true → list_all is_name_byte ds ≡ true
digits_are_bytes [] h = refl
digits_are_bytes (d ∷ ds) h =
    let parts = both-true (is_digit d) (list_all is_digit ds) h in
    both (is_name_byte d) (list_all is_name_byte ds) (or_right (is_letter d) (is_digit d) parts.0) (digits_are_bytes ds parts.1)
  where
    or_right : (x y : Bool) → y ≡ true → (x || y) ≡ true
    or_right true y e = refl
    or_right false y e = e

-- a text with `_` is none of the words
abbrev has_line : List ℕ → Bool
has_line text = list_any (λ b. b == 95) text

not_word : (text : List ℕ) → has_line text ≡ true → is_word text ≡ false
not_word text h =
    none_of_four (same text (codes "min")) (same text (codes "max")) (same text (codes "if")) (same text (codes "sum"))
    (differs (codes "min") refl) (differs (codes "max") refl) (differs (codes "if") refl) (differs (codes "sum") refl)
  where
    none_of_four : (a b c d : Bool) → a ≡ false → b ≡ false → c ≡ false → d ≡ false → (a || b || c || d) ≡ false
    none_of_four a b c d e f g h = rw (e, f, g, h) refl

    differs : (word : List ℕ) → has_line word ≡ false → same text word ≡ false
    differs word none = go (same text word) refl
      where
        go : (b : Bool) → same text word ≡ b → same text word ≡ false
        go false e = e
        go true e = let clash : true ≡ false = sym h ∙ (ap has_line (same-equal text word e) ∙ none) in absurd (cc)

-- a name with `_` and a number is a name, where it isn't too long
pub numbered_is_name : (name : List ℕ) (k : ℕ) → is_name name ≡ true → k ≤ 9223372036854775808 → name_limit (numbered name k) ≡ None → is_name (numbered name k) ≡ true
numbered_is_name [] k h few short = cc
numbered_is_name (c ∷ cs) k h few short =
    let h1 = both-true (is_letter c && list_all is_name_byte (c ∷ cs) && nat_le (length (c ∷ cs)) max_name) (not (is_word (c ∷ cs))) h in
    let h2 = both-true (is_letter c && list_all is_name_byte (c ∷ cs)) (nat_le (length (c ∷ cs)) max_name) h1.0 in
    let h3 = both-true (is_letter c) (list_all is_name_byte (c ∷ cs)) h2.0 in
    let text : List ℕ = numbered (c ∷ cs) k in
    let digits : list_all is_digit (decimal k) ≡ true = (both-true (nat_le 1 (length (decimal k)) && nat_le (length (decimal k)) max_digits) (list_all is_digit (decimal k)) (decimal_digits k few)).1 in
    let front : list_all is_name_byte ((c ∷ cs) ++ codes "_") ≡ true = list_all-append is_name_byte (c ∷ cs) (codes "_") ∙ both (list_all is_name_byte (c ∷ cs)) true h3.1 refl in
    let bytes : list_all is_name_byte text ≡ true =
    list_all-append is_name_byte ((c ∷ cs) ++ codes "_") (decimal k)
    ∙ both (list_all is_name_byte ((c ∷ cs) ++ codes "_")) (list_all is_name_byte (decimal k)) front (digits_are_bytes (decimal k) digits) in
    let line_front : has_line ((c ∷ cs) ++ codes "_") ≡ true = list_any-append (λ b. b == 95) (c ∷ cs) (codes "_") ∙ or_true (has_line (c ∷ cs)) in
    let line : has_line text ≡ true = list_any-append (λ b. b == 95) ((c ∷ cs) ++ codes "_") (decimal k) ∙ ap (λ b. b || has_line (decimal k)) line_front in
    both (is_letter c && list_all is_name_byte text && nat_le (length text) max_name) (not (is_word text))
    (both (is_letter c && list_all is_name_byte text) (nat_le (length text) max_name) (both (is_letter c) (list_all is_name_byte text) h3.0 bytes) (le-leb (length text) max_name (within (nat_lt max_name (length text)) refl short)))
    (ap not (not_word text line))
  where
    or_true : (x : Bool) → (x || true) ≡ true
    or_true true = refl
    or_true false = refl

    within : (b : Bool) → nat_lt max_name (length (numbered (c ∷ cs) k)) ≡ b → cond b (Some limits.Name) None ≡ None → length (numbered (c ∷ cs) k) ≤ max_name
    within true e s = cc
    within false e s = ltb-false max_name (length (numbered (c ∷ cs) k)) e

-- the number that is found is one of those that are tried
pub free_number_le : (names : List (List ℕ)) (name : List ℕ) (many k : ℕ) → free_number names name many k ≤ k + many
free_number_le names name zero k = omega arith
free_number_le names name (suc many) k = go (is_taken names (numbered name k)) (free_number_le names name many (k + 1))
  where
    go : (b : Bool) → free_number names name many (k + 1) ≤ k + 1 + many → cond b (free_number names name many (k + 1)) k ≤ k + suc many
    go true h = omega (arith, h)
    go false h = omega arith
