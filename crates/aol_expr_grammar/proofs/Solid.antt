-- No token of what is well written has blanks.
use Rattle.std.proofs.Common.{◌≡◌, ℕ, List, [], ◌∷◌, ◌++◌, length, Bool, true, false, cond, not, ◌&&◌, ◌||◌, eqb, leb, refl, sym, ◌∙◌, ap}
use Rattle.std.specs.Prelude.{◌*◌}
use Rattle.std.specs.List.{list_all}
use Rattle.std.proofs.lemmas.Bool.{and_parts, and_from, eqb-true, false≢true}
use Rattle.aol_shape.specs.Texts.{is_blank, is_letter, is_digit, is_name_byte, is_name, is_word, are_digits, is_numeral, digits_value}
use Rattle.aol_shape.specs.Tokens.{Token, plain, sign, separated, IsSpaced}
use Rattle.aol_expr_tree.specs.declared.op.ExprOp.{ExprOp}
use Rattle.aol_expr_tree.specs.declared.op.ExprOp.TheVariants.{Add, Sub, Mul, Div, Rem, Lt, Le, Eq, Min, Max}
use Rattle.aol_expr_tree.specs.Text.{Written, WrittenList, no_written, written_and, numeral, dollar, name, indexed, infix_of, function_of, choice, summed, parens, is_well, are_well, groups_left, strength, alone, op_text, tokens_in, token_lists}
use Rattle.aol_expr_grammar.proofs.Gaps.{texts}
use Rattle.aol_expr_grammar.proofs.WordCases.{either}
use Rattle.aol_expr_grammar.proofs.Backwards.{no_blanks, is_solid, back, bare, bare_spaced, back_is}

or_either : (P : Type 0) (a b : Bool) → (a ≡ true → P) → (b ≡ true → P) → (a || b) ≡ true → P
or_either P true b f g h = f refl
or_either P false b f g h = g h

-- a blank is in no name
blank_is_none : (b : ℕ) → is_blank b ≡ true → is_name_byte b ≡ false
blank_is_none b h =
    let at : (n : ℕ) → is_name_byte n ≡ false → eqb b n ≡ true → is_name_byte b ≡ false = λ n e k. ap is_name_byte (eqb-true b n k) ∙ e in
    or_either (is_name_byte b ≡ false) ((eqb b 32 || eqb b 9) || eqb b 10) (eqb b 13)
    (or_either (is_name_byte b ≡ false) (eqb b 32 || eqb b 9) (eqb b 10) (or_either (is_name_byte b ≡ false) (eqb b 32) (eqb b 9) (at 32 refl) (at 9 refl)) (at 10 refl)) (at 13 refl) h

byte_solid : (b : ℕ) → is_name_byte b ≡ true → not (is_blank b) ≡ true
byte_solid b h = either (not (is_blank b) ≡ true) (is_blank b) (λ e. absurd (false≢true (sym (blank_is_none b e) ∙ h))) (λ e. ap not e)

no_blanks_in : (t : List ℕ) → list_all is_name_byte t ≡ true → no_blanks t ≡ true
no_blanks_in [] h = refl
no_blanks_in (b ∷ t) h =
    let p : (is_name_byte b ≡ true) × (list_all is_name_byte t ≡ true) = and_parts (is_name_byte b) (list_all is_name_byte t) h in
    and_from (not (is_blank b)) (no_blanks t) (byte_solid b p.0) (no_blanks_in t p.1)

or_true : (t : Bool) → (t || true) ≡ true
or_true true = refl
or_true false = refl

-- digits are bytes of names
pub digit_bytes : (t : List ℕ) → list_all is_digit t ≡ true → list_all is_name_byte t ≡ true
digit_bytes [] h = refl
digit_bytes (b ∷ t) h =
    let p : (is_digit b ≡ true) × (list_all is_digit t ≡ true) = and_parts (is_digit b) (list_all is_digit t) h in
    and_from (is_name_byte b) (list_all is_name_byte t) (ap (λ c. is_letter b || c) p.0 ∙ or_true (is_letter b)) (digit_bytes t p.1)

-- the bytes of a name are such
pub name_bytes : (x : List ℕ) → is_name x ≡ true → list_all is_name_byte x ≡ true
name_bytes [] h = refl
name_bytes (b ∷ x) h =
    let p = and_parts (is_letter b && list_all is_name_byte (b ∷ x) && leb (length (b ∷ x)) 64) (not (is_word (b ∷ x))) h in
    let q = and_parts (is_letter b && list_all is_name_byte (b ∷ x)) (leb (length (b ∷ x)) 64) p.0 in
    (and_parts (is_letter b) (list_all is_name_byte (b ∷ x)) q.0).1

pub digits_bytes : (t : List ℕ) → are_digits t ≡ true → list_all is_name_byte t ≡ true
digits_bytes t h = digit_bytes t (and_parts (leb 1 (length t) && leb (length t) 19) (list_all is_digit t) h).1

name_solid : (x : List ℕ) → is_name x ≡ true → is_solid x ≡ true
name_solid [] h = absurd (false≢true h)
name_solid (b ∷ x) h = no_blanks_in (b ∷ x) (name_bytes (b ∷ x) h)

digits_solid : (t : List ℕ) → are_digits t ≡ true → is_solid t ≡ true
digits_solid [] h = absurd (false≢true h)
digits_solid (b ∷ t) h = no_blanks_in (b ∷ t) (digits_bytes (b ∷ t) h)

numeral_solid : (t : List ℕ) → is_numeral t ≡ true → is_solid t ≡ true
numeral_solid [] h = absurd (false≢true h)
numeral_solid (b ∷ t) h = either (is_solid (b ∷ t) ≡ true) (eqb b 45)
    (λ e. and_from (not (is_blank b)) (no_blanks t) (ap (λ c. not (is_blank c)) (eqb-true b 45 e)) (no_blanks_in t (digits_bytes t (sym (ap (λ c. are_digits (cond c t (b ∷ t))) e) ∙ h))))
    (λ e. digits_solid (b ∷ t) (sym (ap (λ c. are_digits (cond c t (b ∷ t))) e) ∙ h))

op_solid : (op : ExprOp) → is_solid (op_text op) ≡ true
op_solid Add = refl
op_solid Sub = refl
op_solid Mul = refl
op_solid Div = refl
op_solid Rem = refl
op_solid Lt = refl
op_solid Le = refl
op_solid Eq = refl
op_solid Min = refl
op_solid Max = refl

abbrev pub AreSolid : List Token → Type 0
AreSolid ts = list_all is_solid (texts ts) ≡ true

one_more : (t : Token) (ts : List Token) → is_solid t.text ≡ true → AreSolid ts → AreSolid (t ∷ ts)
one_more t ts h k = and_from (is_solid t.text) (list_all is_solid (texts ts)) h k

both_solid : (ts us : List Token) → AreSolid ts → AreSolid us → AreSolid (ts ++ us)
both_solid [] us h k = k
both_solid (t ∷ ts) us h k =
    let p : (is_solid t.text ≡ true) × AreSolid ts = and_parts (is_solid t.text) (list_all is_solid (texts ts)) h in
    one_more t (ts ++ us) p.0 (both_solid ts us p.1 k)

mutual
  pub solid : (around : ℕ) (w : Written) → is_well w ≡ true → AreSolid (tokens_in around w)
  solid around (numeral t) h = and_from (is_solid t) true (numeral_solid t h) refl
  solid around (dollar t) h = and_from (no_blanks t) true (no_blanks_in t (digit_bytes t (and_parts (leb 1 (length t) && leb (length t) 2) (list_all is_digit t) h).1)) refl
  solid around (name x) h = and_from (is_solid x) true (name_solid x h) refl
  solid around (indexed p at) h =
      let q : (is_name p ≡ true) × (are_well at ≡ true) = and_parts (is_name p) (are_well at) h in
      one_more (plain p) (sign 123 ∷ (separated (token_lists around at) ++ sign 125 ∷ [])) (name_solid p q.0) (both_solid (separated (token_lists around at)) (sign 125 ∷ []) (all_solid around at q.1) refl)
  solid around (infix_of op l r) h =
      let p : ((groups_left op l r && is_well l) ≡ true) × (is_well r ≡ true) = and_parts (groups_left op l r && is_well l) (is_well r) h in
      both_solid (tokens_in around l) (plain (op_text op) ∷ tokens_in around r) (solid around l (and_parts (groups_left op l r) (is_well l) p.0).1) (one_more (plain (op_text op)) (tokens_in around r) (op_solid op) (solid around r p.1))
  solid around (function_of op l r) h =
      let p : ((eqb (strength op) alone && is_well l) ≡ true) × (is_well r ≡ true) = and_parts (eqb (strength op) alone && is_well l) (is_well r) h in
      one_more (plain (op_text op)) (sign 40 ∷ ((tokens_in around l ++ sign 44 ∷ tokens_in around r) ++ sign 41 ∷ [])) (op_solid op)
      (both_solid (tokens_in around l ++ sign 44 ∷ tokens_in around r) (sign 41 ∷ []) (both_solid (tokens_in around l) (sign 44 ∷ tokens_in around r) (solid around l (and_parts (eqb (strength op) alone) (is_well l) p.0).1) (solid around r p.1)) refl)
  solid around (choice c a b) h =
      let p : ((is_well c && is_well a) ≡ true) × (is_well b ≡ true) = and_parts (is_well c && is_well a) (is_well b) h in
      let q : (is_well c ≡ true) × (is_well a ≡ true) = and_parts (is_well c) (is_well a) p.0 in
      both_solid (tokens_in around c ++ sign 44 ∷ (tokens_in around a ++ sign 44 ∷ tokens_in around b)) (sign 41 ∷ [])
      (both_solid (tokens_in around c) (sign 44 ∷ (tokens_in around a ++ sign 44 ∷ tokens_in around b)) (solid around c q.0) (both_solid (tokens_in around a) (sign 44 ∷ tokens_in around b) (solid around a q.1) (solid around b p.1))) refl
  solid around (summed x n e) h =
      let p : ((is_name x && are_digits n) ≡ true) × (is_well e ≡ true) = and_parts (is_name x && are_digits n) (is_well e) h in
      let q : (is_name x ≡ true) × (are_digits n ≡ true) = and_parts (is_name x) (are_digits n) p.0 in
      let term : List Token = tokens_in (around * digits_value n) e in
      and_from (is_solid x) (is_solid n && list_all is_solid (texts (term ++ sign 41 ∷ []))) (name_solid x q.0)
      (and_from (is_solid n) (list_all is_solid (texts (term ++ sign 41 ∷ []))) (digits_solid n q.1) (both_solid term (sign 41 ∷ []) (solid (around * digits_value n) e p.1) refl))
  solid around (parens w) h = both_solid (tokens_in around w) (sign 41 ∷ []) (solid around w h) refl

  all_solid : (around : ℕ) (ws : WrittenList) → are_well ws ≡ true → AreSolid (separated (token_lists around ws))
  all_solid around no_written h = refl
  all_solid around (written_and w no_written) h = solid around w (and_parts (is_well w) true h).0
  all_solid around (written_and w (written_and v ws)) h =
      let p : (is_well w ≡ true) × (are_well (written_and v ws) ≡ true) = and_parts (is_well w) (are_well (written_and v ws)) h in
      both_solid (tokens_in around w) (sign 44 ∷ separated (token_lists around (written_and v ws))) (solid around w p.0) (all_solid around (written_and v ws) p.1)

-- what is well written says the bytes of its text, blanks apart
pub text_back : (bytes : List ℕ) (w : Written) → is_well w ≡ true → IsSpaced bytes (tokens_in 1 w) → bare bytes [] ≡ back w []
text_back bytes w h s = bare_spaced (tokens_in 1 w) bytes [] s (solid 1 w h) ∙ back_is 1 w []
