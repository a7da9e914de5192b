-- Texts with blanks between them, one more after the others.
use Rattle.std.proofs.Common.{◌≡◌, ℕ, List, [], ◌∷◌, ◌++◌, map, Bool, true, refl, sym, ◌∙◌, ap, append_assoc}
use Rattle.std.proofs.lemmas.Bool.{and_from}
use Rattle.std.proofs.lemmas.List.{append-nil}
use Rattle.std.proofs.lemmas.List.Folds.{list_all-append}
use Rattle.std.specs.List.{list_all}
use Rattle.aol_shape.specs.Texts.{is_blank}
use Rattle.aol_shape.specs.Tokens.{Token, IsSpaced}

-- the bytes are these texts in this order, with any blanks before, between and after them
abbrev pub Spaced : List ℕ → List (List ℕ) → Type 0
Spaced bytes [] = list_all is_blank bytes ≡ true
Spaced bytes (t ∷ ts) = (gap : List ℕ) × (rest : List ℕ) × (bytes ≡ gap ++ t ++ rest) × (list_all is_blank gap ≡ true) × Spaced rest ts

-- the texts of tokens
abbrev pub texts : List Token → List (List ℕ)
texts = map (λ t. t.text)

-- tokens are spaced as their texts are
pub from_spaced : (bytes : List ℕ) (ts : List Token) → Spaced bytes (texts ts) → IsSpaced bytes ts
from_spaced bytes [] s = s
from_spaced bytes (t ∷ ts) s = (s.0, s.1, s.2, s.3, from_spaced s.1 ts s.4)

-- what holds of each element and of one more
pub all_more : (p : ℕ → Bool) (xs : List ℕ) (x : ℕ) → list_all p xs ≡ true → p x ≡ true → list_all p (xs ++ x ∷ []) ≡ true
all_more p xs x h k = list_all-append p xs (x ∷ []) ∙ and_from (list_all p xs) (list_all p (x ∷ [])) h (and_from (p x) true k refl)

-- one more text
pub spaced_text : (ts : List (List ℕ)) (bytes t : List ℕ) → Spaced bytes ts → Spaced (bytes ++ t) (ts ++ t ∷ [])
spaced_text [] bytes t s = (bytes, [], sym (append-nil (bytes ++ t)), s, refl)
spaced_text (u ∷ ts) bytes t s = (s.0, s.1 ++ t, ap (λ b. b ++ t) s.2 ∙ append_assoc (s.0 ++ u) s.1 t, s.3, spaced_text ts s.1 t s.4)

-- one more blank
pub spaced_blank : (ts : List (List ℕ)) (bytes : List ℕ) (b : ℕ) → Spaced bytes ts → is_blank b ≡ true → Spaced (bytes ++ b ∷ []) ts
spaced_blank [] bytes b s h = all_more is_blank bytes b s h
spaced_blank (u ∷ ts) bytes b s h = (s.0, s.1 ++ b ∷ [], ap (λ c. c ++ b ∷ []) s.2 ∙ append_assoc (s.0 ++ u) s.1 (b ∷ []), s.3, spaced_blank ts s.1 b s.4 h)
