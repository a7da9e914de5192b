-- Where tokens begin in a text with blanks between them.
use Rattle.std.proofs.Common.{◌≡◌, ℕ, suc, ◌+◌, ◌≤◌, List, [], ◌∷◌, ◌++◌, length, take, drop, get_or, true, false, sym, ◌∙◌, ap, subst, refl, arith, append_assoc}
use Rattle.std.specs.List.{list_all}
use Rattle.std.proofs.lemmas.List.{length-append, take_at, drop_at}
use Rattle.aol_shape.specs.Texts.{is_blank}
use Rattle.aol_shape.specs.Tokens.{Token, IsSpaced, BeginsAt}

take_more : (xs ys : List ℕ) (n k : ℕ) → n ≡ length xs → take (n + k) (xs ++ ys) ≡ xs ++ take k ys
take_more [] ys n k e = ap (λ m. take m ys) (omega (arith, e))
take_more (x ∷ xs) ys n k e = ap (λ m. take m (x ∷ xs ++ ys)) (let m : n + k ≡ suc (length xs + k) = omega (arith, e) in m) ∙ ap (λ zs. x ∷ zs) (take_more xs ys (length xs) k refl)

drop_more : (xs ys : List ℕ) (n k : ℕ) → n ≡ length xs → drop (n + k) (xs ++ ys) ≡ drop k ys
drop_more [] ys n k e = ap (λ m. drop m ys) (omega (arith, e))
drop_more (x ∷ xs) ys n k e = ap (λ m. drop m (x ∷ xs ++ ys)) (let m : n + k ≡ suc (length xs + k) = omega (arith, e) in m) ∙ drop_more xs ys (length xs) k refl

get_more : (xs ys : List ℕ) (n k : ℕ) → n ≡ length xs → get_or (xs ++ ys) (n + k) 0 ≡ get_or ys k 0
get_more [] ys n k e = ap (λ m. get_or ys m 0) (omega (arith, e))
get_more (x ∷ xs) ys n k e = ap (λ m. get_or (x ∷ xs ++ ys) m 0) (let m : n + k ≡ suc (length xs + k) = omega (arith, e) in m) ∙ get_more xs ys (length xs) k refl

-- the text has a first byte, which is no blank
pub record IsFull (t : List ℕ) : Type 0 where
  pub some : 1 ≤ length t
  pub first : is_blank (get_or t 0 0) ≡ false

first_byte : (t rest : List ℕ) → IsFull t → is_blank (get_or (t ++ rest) 0 0) ≡ false
first_byte [] rest h = absurd (omega (arith, h.some))
first_byte (b ∷ t) rest h = h.first

pub begins_here : (t : Token) (ts : List Token) (bytes : List ℕ) (s : IsSpaced bytes (t ∷ ts)) → IsFull t.text → BeginsAt bytes (t ∷ ts) 0 (length s.0)
begins_here t ts bytes s h =
    let e : bytes ≡ s.0 ++ (t.text ++ s.1) = s.2 ∙ append_assoc s.0 t.text s.1 in
    let n : length s.0 + 0 ≡ length s.0 = omega arith in
    record {
      within = omega (arith, ap length e, length-append s.0 (t.text ++ s.1), length-append t.text s.1, h.some);
      before = subst (λ bs. list_all is_blank bs ≡ true) (sym (ap (take (length s.0)) e ∙ take_at s.0 (t.text ++ s.1) (length s.0) refl)) s.3;
      from = ([], s.1, ap (drop (length s.0)) e ∙ drop_at s.0 (t.text ++ s.1) (length s.0) refl, refl, s.4);
      on_token = ap (λ bs. is_blank (get_or bs (length s.0) 0)) e ∙ ap (λ k. is_blank (get_or (s.0 ++ (t.text ++ s.1)) k 0)) (sym n) ∙ ap is_blank (get_more s.0 (t.text ++ s.1) (length s.0) 0 refl) ∙ first_byte t.text s.1 h;
    }

pub begins_later : (t : Token) (ts : List Token) (bytes : List ℕ) (s : IsSpaced bytes (t ∷ ts)) (k o : ℕ) → BeginsAt s.1 ts k o → BeginsAt bytes (t ∷ ts) (suc k) (length s.0 + length t.text + o)
begins_later t ts bytes s k o b =
    let n : length s.0 + length t.text ≡ length (s.0 ++ t.text) = omega (arith, length-append s.0 t.text) in
    record {
      within = omega (arith, ap length s.2, length-append (s.0 ++ t.text) s.1, n, b.within);
      before = (s.0, take o s.1, ap (take (length s.0 + length t.text + o)) s.2 ∙ take_more (s.0 ++ t.text) s.1 (length s.0 + length t.text) o n, s.3, b.before);
      from = subst (λ bs. IsSpaced bs (drop k ts)) (sym (ap (drop (length s.0 + length t.text + o)) s.2 ∙ drop_more (s.0 ++ t.text) s.1 (length s.0 + length t.text) o n)) b.from;
      on_token = ap (λ bs. is_blank (get_or bs (length s.0 + length t.text + o) 0)) s.2 ∙ ap is_blank (get_more (s.0 ++ t.text) s.1 (length s.0 + length t.text) o n) ∙ b.on_token;
    }
