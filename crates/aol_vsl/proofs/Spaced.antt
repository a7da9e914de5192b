-- Texts with blanks between them, apart from what they pass.
use Rattle.std.proofs.Common.{◌≡◌, ℕ, ◌+◌, ◌≤◌, List, [], ◌∷◌, ◌++◌, length, map, Bool, true, false, ◌&&◌, refl, sym, ◌∙◌, ap, subst, arith, append_assoc, codes}
use Rattle.std.proofs.lemmas.List.{length-append}
use Rattle.std.specs.List.{list_all}
use Rattle.aol_shape.specs.Texts.{is_blank}
use Rattle.aol_shape.specs.Tokens.{Token, IsSpaced, separated, sign}
use Rattle.aol_vsl.specs.Text.{Numeral, WrittenTiler}

-- the bytes begin with these texts in this order, with any blanks before each, and `rest` comes after
abbrev pub Front : List (List ℕ) → List ℕ → List ℕ → Type 0
Front [] bytes rest = bytes ≡ rest
Front (t ∷ ts) bytes rest = (gap : List ℕ) × (mid : List ℕ) × (bytes ≡ gap ++ t ++ mid) × (list_all is_blank gap ≡ true) × Front ts mid rest

-- the bytes are these texts in this order, with any blanks before, between and after them
abbrev pub Spaced : List ℕ → List (List ℕ) → Type 0
Spaced bytes [] = list_all is_blank bytes ≡ true
Spaced bytes (t ∷ ts) = (gap : List ℕ) × (rest : List ℕ) × (bytes ≡ gap ++ t ++ rest) × (list_all is_blank gap ≡ true) × Spaced rest ts

-- the texts of tokens
abbrev pub texts : List Token → List (List ℕ)
texts = map (λ t. t.text)

-- the texts of tokens are spaced as the tokens are
abbrev pub to_spaced : (bytes : List ℕ) (ts : List Token) → IsSpaced bytes ts → Spaced bytes (texts ts)
to_spaced bytes [] s = s
to_spaced bytes (t ∷ ts) s = (s.0, s.1, s.2, s.3, to_spaced s.1 ts s.4)

abbrev pub from_spaced : (bytes : List ℕ) (ts : List Token) → Spaced bytes (texts ts) → IsSpaced bytes ts
from_spaced bytes [] s = s
from_spaced bytes (t ∷ ts) s = (s.0, s.1, s.2, s.3, from_spaced s.1 ts s.4)

pub front_front : (ts us : List (List ℕ)) (bytes mid rest : List ℕ) → Front ts bytes mid → Front us mid rest → Front (ts ++ us) bytes rest
front_front [] us bytes mid rest f g = subst (λ b. Front us b rest) (sym f) g
front_front (t ∷ ts) us bytes mid rest f g = (f.0, f.1, f.2, f.3, front_front ts us f.1 mid rest f.4 g)

pub front_end : (ts : List (List ℕ)) (bytes rest : List ℕ) → Front ts bytes rest → list_all is_blank rest ≡ true → Spaced bytes ts
front_end [] bytes rest f h = ap (list_all is_blank) f ∙ h
front_end (t ∷ ts) bytes rest f h = (f.0, f.1, f.2, f.3, front_end ts f.1 rest f.4 h)

pub front_length : (ts : List (List ℕ)) (bytes rest : List ℕ) → Front ts bytes rest → length rest ≤ length bytes
front_length [] bytes rest f = omega (arith, ap length f)
front_length (t ∷ ts) bytes rest f = omega (arith, front_length ts f.1 rest f.4, ap length f.2, length-append (f.0 ++ t) f.1)

-- a blank before the texts
pub blank_front : (t : List ℕ) (ts : List (List ℕ)) (b : ℕ) (bytes rest : List ℕ) → is_blank b ≡ true → Front (t ∷ ts) bytes rest → Front (t ∷ ts) (b ∷ bytes) rest
blank_front t ts b bytes rest h f = (b ∷ f.0, f.1, ap (λ bs. b ∷ bs) f.2, ap (λ x. x && list_all is_blank f.0) h ∙ f.3, f.4)

-- a text at once
pub front_here : (t : List ℕ) (bytes rest : List ℕ) → bytes ≡ t ++ rest → Front (t ∷ []) bytes rest
front_here t bytes rest e = ([], rest, e, refl, refl)

-- ---- the texts of vectors and matrices

-- entries that each stand after a comma, and the closing brace
abbrev pub more_texts : List Numeral → List (List ℕ)
more_texts [] = (125 ∷ []) ∷ []
more_texts (n ∷ ns) = (44 ∷ []) ∷ n ∷ more_texts ns

-- entries and the closing brace
abbrev pub first_texts : List Numeral → List (List ℕ)
first_texts [] = (125 ∷ []) ∷ []
first_texts (n ∷ ns) = n ∷ more_texts ns

-- a vector
abbrev pub vector_texts : List Numeral → List (List ℕ)
vector_texts ns = (123 ∷ []) ∷ first_texts ns

-- columns that each stand after a comma, and the closing brace
abbrev pub more_columns : List (List Numeral) → List (List ℕ)
more_columns [] = (125 ∷ []) ∷ []
more_columns (c ∷ cs) = (44 ∷ []) ∷ (vector_texts c ++ more_columns cs)

-- columns and the closing brace
abbrev pub first_columns : List (List Numeral) → List (List ℕ)
first_columns [] = (125 ∷ []) ∷ []
first_columns (c ∷ cs) = vector_texts c ++ more_columns cs

-- a matrix
abbrev pub matrix_texts : List (List Numeral) → List (List ℕ)
matrix_texts cs = (123 ∷ []) ∷ first_columns cs

-- a sign, a name and `=`
abbrev pub name_texts : ℕ → List ℕ → List (List ℕ)
name_texts c name = (c ∷ []) ∷ name ∷ (61 ∷ []) ∷ []

-- a tiler
abbrev pub tiler_texts : WrittenTiler → List (List ℕ)
tiler_texts w = name_texts 40 (codes "origin") ++ (vector_texts w.origin ++ (name_texts 44 (codes "paving") ++ (matrix_texts w.paving ++ (name_texts 44 (codes "fitting") ++ (matrix_texts w.fitting ++ (41 ∷ []) ∷ [])))))
