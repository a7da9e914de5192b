-- The bytes of what is written from the last to the first, without blanks.
use Rattle.std.proofs.Common.{◌≡◌, ℕ, List, [], ◌∷◌, ◌++◌, Bool, true, false, cond, not, refl, ◌∙◌, ap}
use Rattle.std.specs.Prelude.{codes, ◌*◌}
use Rattle.std.specs.List.{list_all}
use Rattle.std.proofs.lemmas.Bool.{and_parts, false≢true}
use Rattle.aol_shape.specs.Texts.{is_blank, digits_value}
use Rattle.aol_shape.specs.Tokens.{Token, plain, sign, separated, IsSpaced}
use Rattle.aol_expr_tree.specs.Text.{Written, WrittenList, no_written, written_and, numeral, dollar, name, indexed, infix_of, function_of, choice, summed, parens, op_text, tokens_in, token_lists}
use Rattle.aol_expr_grammar.proofs.Gaps.{texts}

-- the bytes before these, the last one first
abbrev pub onto : List ℕ → List ℕ → List ℕ
onto [] k = k
onto (b ∷ bs) k = onto bs (b ∷ k)

-- texts, the last one first
abbrev pub onto_all : List (List ℕ) → List ℕ → List ℕ
onto_all [] k = k
onto_all (t ∷ ts) k = onto_all ts (onto t k)

abbrev mutual
  -- what is written, the last byte first
  pub back : Written → List ℕ → List ℕ
  back (numeral t) k = onto t k
  back (dollar t) k = onto t (36 ∷ k)
  back (name x) k = onto x k
  back (indexed p at) k = 125 ∷ back_all at (123 ∷ onto p k)
  back (infix_of op l r) k = back r (onto (op_text op) (back l k))
  back (function_of op l r) k = 41 ∷ back r (44 ∷ back l (40 ∷ onto (op_text op) k))
  back (choice c a b) k = 41 ∷ back b (44 ∷ back a (44 ∷ back c (40 ∷ onto (codes "if") k)))
  back (summed x n e) k = 41 ∷ back e (44 ∷ onto n (44 ∷ onto x (40 ∷ onto (codes "sum") k)))
  back (parens w) k = 41 ∷ back w (40 ∷ k)

  pub back_all : WrittenList → List ℕ → List ℕ
  back_all no_written k = k
  back_all (written_and w ws) k = back_more ws (back w k)

  pub back_more : WrittenList → List ℕ → List ℕ
  back_more no_written k = k
  back_more (written_and w ws) k = back_more ws (back w (44 ∷ k))

-- ---- they are those of the tokens

onto_both : (ts us : List Token) (k : List ℕ) → onto_all (texts (ts ++ us)) k ≡ onto_all (texts us) (onto_all (texts ts) k)
onto_both [] us k = refl
onto_both (t ∷ ts) us k = onto_both ts us (onto t.text k)

-- tokens, and others after them
then_is : (ts us : List Token) (k m : List ℕ) → onto_all (texts ts) k ≡ m → onto_all (texts (ts ++ us)) k ≡ onto_all (texts us) m
then_is ts us k m e = onto_both ts us k ∙ ap (onto_all (texts us)) e

mutual
  pub back_is : (around : ℕ) (w : Written) (k : List ℕ) → onto_all (texts (tokens_in around w)) k ≡ back w k
  back_is around (numeral t) k = refl
  back_is around (dollar t) k = refl
  back_is around (name x) k = refl
  back_is around (indexed p at) k = then_is (separated (token_lists around at)) (sign 125 ∷ []) (123 ∷ onto p k) (back_all at (123 ∷ onto p k)) (back_all_is around at (123 ∷ onto p k))
  back_is around (infix_of op l r) k = then_is (tokens_in around l) (plain (op_text op) ∷ tokens_in around r) k (back l k) (back_is around l k) ∙ back_is around r (onto (op_text op) (back l k))
  back_is around (function_of op l r) k =
      let m : List ℕ = 40 ∷ onto (op_text op) k in
      then_is (tokens_in around l ++ sign 44 ∷ tokens_in around r) (sign 41 ∷ []) m (back r (44 ∷ back l m))
      (then_is (tokens_in around l) (sign 44 ∷ tokens_in around r) m (back l m) (back_is around l m) ∙ back_is around r (44 ∷ back l m))
  back_is around (choice c a b) k =
      let m : List ℕ = 40 ∷ onto (codes "if") k in
      let n : List ℕ = 44 ∷ back c m in
      then_is (tokens_in around c ++ sign 44 ∷ (tokens_in around a ++ sign 44 ∷ tokens_in around b)) (sign 41 ∷ []) m (back b (44 ∷ back a n))
      (then_is (tokens_in around c) (sign 44 ∷ (tokens_in around a ++ sign 44 ∷ tokens_in around b)) m (back c m) (back_is around c m)
      ∙ then_is (tokens_in around a) (sign 44 ∷ tokens_in around b) n (back a n) (back_is around a n) ∙ back_is around b (44 ∷ back a n))
  back_is around (summed x n e) k =
      let m : List ℕ = 44 ∷ onto n (44 ∷ onto x (40 ∷ onto (codes "sum") k)) in
      then_is (tokens_in (around * digits_value n) e) (sign 41 ∷ []) m (back e m) (back_is (around * digits_value n) e m)
  back_is around (parens w) k = then_is (tokens_in around w) (sign 41 ∷ []) (40 ∷ k) (back w (40 ∷ k)) (back_is around w (40 ∷ k))

  back_all_is : (around : ℕ) (ws : WrittenList) (k : List ℕ) → onto_all (texts (separated (token_lists around ws))) k ≡ back_all ws k
  back_all_is around no_written k = refl
  back_all_is around (written_and w no_written) k = back_is around w k
  back_all_is around (written_and w (written_and v ws)) k =
      then_is (tokens_in around w) (sign 44 ∷ separated (token_lists around (written_and v ws))) k (back w k) (back_is around w k) ∙ back_all_is around (written_and v ws) (44 ∷ back w k)

-- ---- and those of the text, where no token has blanks

-- bytes without blanks, the last one first
abbrev pub bare : List ℕ → List ℕ → List ℕ
bare [] k = k
bare (b ∷ bs) k = bare bs (cond (is_blank b) k (b ∷ k))

-- there are bytes, and none is blank
abbrev pub no_blanks : List ℕ → Bool
no_blanks t = list_all (λ b. not (is_blank b)) t

abbrev pub is_solid : List ℕ → Bool
is_solid [] = false
is_solid (b ∷ t) = no_blanks (b ∷ t)

bare_both : (xs ys k : List ℕ) → bare (xs ++ ys) k ≡ bare ys (bare xs k)
bare_both [] ys k = refl
bare_both (b ∷ xs) ys k = bare_both xs ys (cond (is_blank b) k (b ∷ k))

bare_gap : (gap k : List ℕ) → list_all is_blank gap ≡ true → bare gap k ≡ k
bare_gap [] k h = refl
bare_gap (b ∷ gap) k h =
    let p : (is_blank b ≡ true) × (list_all is_blank gap ≡ true) = and_parts (is_blank b) (list_all is_blank gap) h in
    ap (λ t. bare gap (cond t k (b ∷ k))) p.0 ∙ bare_gap gap k p.1

not_false : (t : Bool) → not t ≡ true → t ≡ false
not_false true e = absurd (false≢true e)
not_false false e = refl

bare_all : (t k : List ℕ) → no_blanks t ≡ true → bare t k ≡ onto t k
bare_all [] k h = refl
bare_all (b ∷ t) k h =
    let p : (not (is_blank b) ≡ true) × (no_blanks t ≡ true) = and_parts (not (is_blank b)) (no_blanks t) h in
    ap (λ c. bare t (cond c k (b ∷ k))) (not_false (is_blank b) p.0) ∙ bare_all t (b ∷ k) p.1

bare_solid : (t k : List ℕ) → is_solid t ≡ true → bare t k ≡ onto t k
bare_solid [] k h = absurd (false≢true h)
bare_solid (b ∷ t) k h = bare_all (b ∷ t) k h

-- the bytes of a spaced text
pub bare_spaced : (ts : List Token) (bytes k : List ℕ) → IsSpaced bytes ts → list_all is_solid (texts ts) ≡ true → bare bytes k ≡ onto_all (texts ts) k
bare_spaced [] bytes k s h = bare_gap bytes k s
bare_spaced (t ∷ ts) bytes k s h =
    let p : (is_solid t.text ≡ true) × (list_all is_solid (texts ts) ≡ true) = and_parts (is_solid t.text) (list_all is_solid (texts ts)) h in
    ap (λ b. bare b k) s.2
    ∙ bare_both (s.0 ++ t.text) s.1 k
    ∙ ap (bare s.1) (bare_both s.0 t.text k ∙ ap (bare t.text) (bare_gap s.0 k s.3) ∙ bare_solid t.text k p.0)
    ∙ bare_spaced ts s.1 (onto t.text k) s.4 p.1
