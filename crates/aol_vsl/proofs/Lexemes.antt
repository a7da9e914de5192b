-- The lexemes of a spaced text are its texts, where they begin.
use Rattle.std.proofs.Common.{◌≡◌, ℕ, zero, suc, ◌+◌, ◌<◌, ◌≤◌, List, [], ◌∷◌, ◌++◌, length, map, Bool, true, false, cond, ◌&&◌, ◌||◌, not, eqb, leb, refl, sym, ◌∙◌, ap, subst, arith, append_assoc}
use Rattle.std.proofs.lemmas.Bool.{ne_eqb, eq-eqb, and_parts, and_from, and_left, and_right, not-true, leb-true, eqb-true, false≢true}
use Rattle.std.specs.List.{list_all}
use Rattle.aol_shape.specs.Texts.{is_blank, is_digit, is_letter, are_digits, is_numeral}
use Rattle.aol_shape.specs.Grammar.{Lexeme, with_byte, lexemes_from}
use Rattle.aol_vsl.specs.Text.{Numeral}
use Rattle.aol_vsl.specs.Reading.{joins}
use Rattle.aol_vsl.proofs.Accepts.{of_blank, Magnitude, magnitude_of}
use Rattle.aol_vsl.proofs.Spaced.{Spaced, more_texts, first_texts, vector_texts}
use Rattle.aol_vsl.proofs.Sound.{by_test}

-- the lexemes of bytes that begin at a place
abbrev pub lexed : ℕ → List ℕ → List Lexeme
lexed p bs = lexemes_from joins p bs

-- the lexeme of a text that begins at a place
abbrev pub lexeme : ℕ → List ℕ → Lexeme
lexeme p t = record { start = p; text = t }

-- ---- how lexemes begin

abbrev Begun : ℕ → ℕ → List Lexeme → Type 0
Begun p c ls = (t : List ℕ) × (rest : List Lexeme) × (ls ≡ lexeme p (c ∷ t) ∷ rest)

begun_either : (p c : ℕ) (b : Bool) (t u : List ℕ) (ls ms : List Lexeme) → Begun p c (cond b (lexeme p (c ∷ t) ∷ ls) (lexeme p (c ∷ u) ∷ ms))
begun_either p c true t u ls ms = (t, ls, refl)
begun_either p c false t u ls ms = (u, ms, refl)

begins_at : (p c s : ℕ) (t : List ℕ) (ls : List Lexeme) → Begun p c (with_byte joins p c (lexeme s t ∷ ls))
begins_at p c s [] ls = ([], lexeme s [] ∷ ls, refl)
begins_at p c s (d ∷ ds) ls = begun_either p c (joins c d && eqb s (p + 1)) (d ∷ ds) [] ls (lexeme s (d ∷ ds) ∷ ls)

-- a byte is the first of the first lexeme, which begins there
begins : (p c : ℕ) (ls : List Lexeme) → Begun p c (with_byte joins p c ls)
begins p c [] = ([], [], refl)
begins p c (l ∷ ls) = begins_at p c l.start l.text ls

pub lexed_blank : (p b : ℕ) (bs : List ℕ) → is_blank b ≡ true → lexed p (b ∷ bs) ≡ lexed (p + 1) bs
lexed_blank p b bs h = ap (λ t. cond t (lexed (p + 1) bs) (with_byte joins p b (lexed (p + 1) bs))) h

lexed_byte : (p b : ℕ) (bs : List ℕ) → is_blank b ≡ false → lexed p (b ∷ bs) ≡ with_byte joins p b (lexed (p + 1) bs)
lexed_byte p b bs h = ap (λ t. cond t (lexed (p + 1) bs) (with_byte joins p b (lexed (p + 1) bs))) h

-- no lexeme begins before a place
abbrev IsFrom : ℕ → List Lexeme → Type 0
IsFrom p [] = Unit {0}
IsFrom p (l ∷ ls) = p ≤ l.start

earlier : (p q : ℕ) (ls : List Lexeme) → p ≤ q → IsFrom q ls → IsFrom p ls
earlier p q [] h f = tt
earlier p q (l ∷ ls) h f = omega (arith, h, f)

begun_from : (p c : ℕ) (ls : List Lexeme) → Begun p c ls → IsFrom p ls
begun_from p c ls b = subst (λ ms. IsFrom p ms) (sym b.2) (omega arith)

lexed_from : (p : ℕ) (bs : List ℕ) → IsFrom p (lexed p bs)
lexed_from p [] = tt
lexed_from p (b ∷ bs) = by_test _ (is_blank b)
    (λ h. subst (λ ms. IsFrom p ms) (sym (lexed_blank p b bs h)) (earlier p (p + 1) (lexed (p + 1) bs) (omega arith) (lexed_from (p + 1) bs)))
    (λ h. subst (λ ms. IsFrom p ms) (sym (lexed_byte p b bs h)) (begun_from p b _ (begins p b (lexed (p + 1) bs))))

-- ---- one byte before others

-- the byte goes on with the first of these
abbrev pub goes_on : ℕ → List ℕ → Bool
goes_on b [] = false
goes_on b (c ∷ cs) = joins b c

far_one : (p b s : ℕ) (t : List ℕ) (ls : List Lexeme) → p + 2 ≤ s → with_byte joins p b (lexeme s t ∷ ls) ≡ lexeme p (b ∷ []) ∷ lexeme s t ∷ ls
far_one p b s [] ls h = refl
far_one p b s (c ∷ cs) ls h = ap (λ t. cond t (lexeme p (b ∷ c ∷ cs) ∷ ls) (lexeme p (b ∷ []) ∷ lexeme s (c ∷ cs) ∷ ls)) (and_right (joins b c) (eqb s (p + 1)) (ne_eqb s (p + 1) (λ e. absurd (omega (arith, e, h)))))

far : (p b : ℕ) (ls : List Lexeme) → IsFrom (p + 2) ls → with_byte joins p b ls ≡ lexeme p (b ∷ []) ∷ ls
far p b [] f = refl
far p b (l ∷ ls) f = far_one p b l.start l.text ls f

apart_one : (p b c : ℕ) (ls : List Lexeme) → joins b c ≡ false → Begun (p + 1) c ls → with_byte joins p b ls ≡ lexeme p (b ∷ []) ∷ ls
apart_one p b c ls h f =
    ap (with_byte joins p b) f.2
    ∙ ap (λ t. cond t (lexeme p (b ∷ c ∷ f.0) ∷ f.1) (lexeme p (b ∷ []) ∷ lexeme (p + 1) (c ∷ f.0) ∷ f.1)) (and_left (joins b c) (eqb (p + 1) (p + 1)) h)
    ∙ ap (λ ms. lexeme p (b ∷ []) ∷ ms) (sym f.2)

apart_here : (p b : ℕ) (bs : List ℕ) → goes_on b bs ≡ false → with_byte joins p b (lexed (p + 1) bs) ≡ lexeme p (b ∷ []) ∷ lexed (p + 1) bs
apart_here p b [] g = refl
apart_here p b (c ∷ cs) g = by_test _ (is_blank c)
    (λ h. far p b (lexed (p + 1) (c ∷ cs)) (subst (λ ms. IsFrom (p + 2) ms) (sym (lexed_blank (p + 1) c cs h)) (earlier (p + 2) (p + 1 + 1) (lexed (p + 1 + 1) cs) (omega arith) (lexed_from (p + 1 + 1) cs))))
    (λ h. apart_one p b c (lexed (p + 1) (c ∷ cs)) g (subst (λ ms. Begun (p + 1) c ms) (sym (lexed_byte (p + 1) c cs h)) (begins (p + 1) c (lexed (p + 1 + 1) cs))))

-- a byte that doesn't go on is a lexeme
pub lexed_apart : (p b : ℕ) (bs : List ℕ) → is_blank b ≡ false → goes_on b bs ≡ false → lexed p (b ∷ bs) ≡ lexeme p (b ∷ []) ∷ lexed (p + 1) bs
lexed_apart p b bs h g = lexed_byte p b bs h ∙ apart_here p b bs g

-- a byte that goes on begins the lexeme after it
lexed_joined : (p b c : ℕ) (cs t : List ℕ) (ls : List Lexeme) → is_blank b ≡ false → joins b c ≡ true → lexed (p + 1) cs ≡ lexeme (p + 1) (c ∷ t) ∷ ls → lexed p (b ∷ cs) ≡ lexeme p (b ∷ c ∷ t) ∷ ls
lexed_joined p b c cs t ls h j e =
    lexed_byte p b cs h
    ∙ ap (with_byte joins p b) e
    ∙ ap (λ x. cond x (lexeme p (b ∷ c ∷ t) ∷ ls) (lexeme p (b ∷ []) ∷ lexeme (p + 1) (c ∷ t) ∷ ls)) (and_from (joins b c) (eqb (p + 1) (p + 1)) j (eq-eqb (p + 1) (p + 1) refl))

-- ---- a text before others

-- no byte is a blank, and each goes on with the next
abbrev pub together : List ℕ → Bool
together [] = false
together (b ∷ []) = not (is_blank b)
together (b ∷ c ∷ cs) = not (is_blank b) && joins b c && together (c ∷ cs)

-- the last byte goes on with the first of these
abbrev pub last_goes_on : List ℕ → List ℕ → Bool
last_goes_on [] rest = false
last_goes_on (b ∷ []) rest = goes_on b rest
last_goes_on (b ∷ c ∷ cs) rest = last_goes_on (c ∷ cs) rest

-- a text that holds together, and doesn't go on, is a lexeme
pub lexed_text : (t : List ℕ) (p : ℕ) (rest : List ℕ) → together t ≡ true → last_goes_on t rest ≡ false → lexed p (t ++ rest) ≡ lexeme p t ∷ lexed (p + length t) rest
lexed_text [] p rest h g = cc
lexed_text (b ∷ []) p rest h g = lexed_apart p b rest (not-true (is_blank b) h) g ∙ ap (λ q. lexeme p (b ∷ []) ∷ lexed q rest) (omega arith)
lexed_text (b ∷ c ∷ cs) p rest h g =
    let outer : ((not (is_blank b) && joins b c) ≡ true) × (together (c ∷ cs) ≡ true) = and_parts (not (is_blank b) && joins b c) (together (c ∷ cs)) h in
    let inner : (not (is_blank b) ≡ true) × (joins b c ≡ true) = and_parts (not (is_blank b)) (joins b c) outer.0 in
    lexed_joined p b c (c ∷ cs ++ rest) cs (lexed (p + 1 + length (c ∷ cs)) rest) (not-true (is_blank b) inner.0) inner.1 (lexed_text (c ∷ cs) (p + 1) rest outer.1 g)
    ∙ ap (λ q. lexeme p (b ∷ c ∷ cs) ∷ lexed q rest) (omega arith)

pub lexed_blanks : (gap : List ℕ) (p : ℕ) (rest : List ℕ) → list_all is_blank gap ≡ true → lexed p (gap ++ rest) ≡ lexed (p + length gap) rest
lexed_blanks [] p rest h = ap (λ q. lexed q rest) (omega arith)
lexed_blanks (b ∷ gap) p rest h =
    let parts : (is_blank b ≡ true) × (list_all is_blank gap ≡ true) = and_parts (is_blank b) (list_all is_blank gap) h in
    lexed_blank p b (gap ++ rest) parts.0 ∙ lexed_blanks gap (p + 1) rest parts.1 ∙ ap (λ q. lexed q rest) (omega arith)

-- ---- spaced texts

-- the text doesn't go on with the next
abbrev pub Follows : List ℕ → List (List ℕ) → Type 0
Follows t [] = Unit {0}
Follows t (u ∷ us) = last_goes_on t u ≡ false

-- each text holds together, and doesn't go on with the next
abbrev pub Apart : List (List ℕ) → Type 0
Apart [] = Unit {0}
Apart (t ∷ ts) = (together t ≡ true) × Follows t ts × Apart ts

-- the lexemes of a spaced text, where its witness puts them
abbrev pub placed : (p : ℕ) (bytes : List ℕ) (ts : List (List ℕ)) → Spaced bytes ts → List Lexeme
placed p bytes [] s = []
placed p bytes (t ∷ ts) s = lexeme (p + length s.0) t ∷ placed (p + length s.0 + length t) s.1 ts s.4

pub joins_no : (b c : ℕ) → is_digit c ≡ false → is_letter c ≡ false → joins b c ≡ false
joins_no b c h k = ap (λ t. t || (is_letter b && is_letter c)) (and_right (is_digit b || eqb b 45) (is_digit c) h) ∙ and_right (is_letter b) (is_letter c) k

pub joins_no_blank : (b c : ℕ) → is_blank c ≡ true → joins b c ≡ false
joins_no_blank b = of_blank (λ c. joins b c ≡ false) (joins_no b 32 refl refl) (joins_no b 9 refl refl) (joins_no b 10 refl refl) (joins_no b 13 refl refl)

last_before_blank : (t : List ℕ) (c : ℕ) (cs : List ℕ) → is_blank c ≡ true → last_goes_on t (c ∷ cs) ≡ false
last_before_blank [] c cs h = refl
last_before_blank (b ∷ []) c cs h = joins_no_blank b c h
last_before_blank (b ∷ b' ∷ bs) c cs h = last_before_blank (b' ∷ bs) c cs h

last_before_text : (t u rest : List ℕ) → together u ≡ true → last_goes_on t u ≡ false → last_goes_on t (u ++ rest) ≡ false
last_before_text t [] rest h g = cc
last_before_text [] (c ∷ cs) rest h g = refl
last_before_text (b ∷ []) (c ∷ cs) rest h g = g
last_before_text (b ∷ b' ∷ bs) (c ∷ cs) rest h g = last_before_text (b' ∷ bs) (c ∷ cs) rest h g

last_at_end : (t : List ℕ) → last_goes_on t [] ≡ false
last_at_end [] = refl
last_at_end (b ∷ []) = refl
last_at_end (b ∷ b' ∷ bs) = last_at_end (b' ∷ bs)

last_before_gap : (t gap more : List ℕ) → list_all is_blank gap ≡ true → last_goes_on t more ≡ false → last_goes_on t (gap ++ more) ≡ false
last_before_gap t [] more h g = g
last_before_gap t (c ∷ cs) more h g = last_before_blank t c (cs ++ more) (and_parts (is_blank c) (list_all is_blank cs) h).0

last_before : (t : List ℕ) (ts : List (List ℕ)) (bytes : List ℕ) → Follows t ts → Apart ts → Spaced bytes ts → last_goes_on t bytes ≡ false
last_before t [] [] f a s = last_at_end t
last_before t [] (b ∷ bytes) f a s = last_before_blank t b bytes (and_parts (is_blank b) (list_all is_blank bytes) s).0
last_before t (u ∷ us) bytes f a s = ap (last_goes_on t) (s.2 ∙ append_assoc s.0 u s.1) ∙ last_before_gap t s.0 (u ++ s.1) s.3 (last_before_text t u s.1 a.0 f)

lexed_end : (p : ℕ) (bytes : List ℕ) → list_all is_blank bytes ≡ true → lexed p bytes ≡ []
lexed_end p [] h = refl
lexed_end p (b ∷ bytes) h = let parts : (is_blank b ≡ true) × (list_all is_blank bytes ≡ true) = and_parts (is_blank b) (list_all is_blank bytes) h in lexed_blank p b bytes parts.0 ∙ lexed_end (p + 1) bytes parts.1

-- the lexemes of a spaced text are its texts
pub lexed_spaced : (ts : List (List ℕ)) → Apart ts → (p : ℕ) (bytes : List ℕ) (s : Spaced bytes ts) → lexed p bytes ≡ placed p bytes ts s
lexed_spaced [] a p bytes s = lexed_end p bytes s
lexed_spaced (t ∷ ts) a p bytes s =
    ap (lexed p) (s.2 ∙ append_assoc s.0 t s.1)
    ∙ lexed_blanks s.0 p (t ++ s.1) s.3
    ∙ lexed_text t (p + length s.0) s.1 a.0 (last_before t ts s.1 a.1 a.2 s.4)
    ∙ ap (λ ls. lexeme (p + length s.0) t ∷ ls) (lexed_spaced ts a.2 (p + length s.0 + length t) s.1 s.4)

placed_texts : (p : ℕ) (bytes : List ℕ) (ts : List (List ℕ)) (s : Spaced bytes ts) → map (λ l. l.text) (placed p bytes ts s) ≡ ts
placed_texts p bytes [] s = refl
placed_texts p bytes (t ∷ ts) s = ap (λ us. t ∷ us) (placed_texts (p + length s.0 + length t) s.1 ts s.4)

-- and have them as texts
pub lexed_texts : (ts : List (List ℕ)) → Apart ts → (p : ℕ) (bytes : List ℕ) → Spaced bytes ts → map (λ l. l.text) (lexed p bytes) ≡ ts
lexed_texts ts a p bytes s = ap (map (λ l. l.text)) (lexed_spaced ts a p bytes s) ∙ placed_texts p bytes ts s

-- ---- numerals and signs

digits_join : (b c : ℕ) → is_digit b ≡ true → is_digit c ≡ true → joins b c ≡ true
digits_join b c h k = ap (λ t. ((t || eqb b 45) && is_digit c) || (is_letter b && is_letter c)) h ∙ ap (λ t. t || (is_letter b && is_letter c)) k

digit_no_blank : (b : ℕ) → is_digit b ≡ true → not (is_blank b) ≡ true
digit_no_blank b h = by_test _ (is_blank b) (λ e. absurd (false≢true (sym (of_blank (λ c. is_digit c ≡ false) refl refl refl refl b e) ∙ h))) (λ e. ap not e)

digits_together : (b : ℕ) (bs : List ℕ) → list_all is_digit (b ∷ bs) ≡ true → together (b ∷ bs) ≡ true
digits_together b [] h = digit_no_blank b (and_parts (is_digit b) true h).0
digits_together b (c ∷ cs) h =
    let parts : (is_digit b ≡ true) × (list_all is_digit (c ∷ cs) ≡ true) = and_parts (is_digit b) (list_all is_digit (c ∷ cs)) h in
    let c_is : is_digit c ≡ true = (and_parts (is_digit c) (list_all is_digit cs) parts.1).0 in
    and_from (not (is_blank b) && joins b c) (together (c ∷ cs)) (and_from (not (is_blank b)) (joins b c) (digit_no_blank b parts.0) (digits_join b c parts.0 c_is)) (digits_together c cs parts.1)

magnitude_together : (ds : List ℕ) → Magnitude ds → together ds ≡ true
magnitude_together [] m = absurd (omega (arith, m.least))
magnitude_together (d ∷ ds) m = digits_together d ds m.each

minus_together : (ds : List ℕ) → Magnitude ds → together (45 ∷ ds) ≡ true
minus_together [] m = absurd (omega (arith, m.least))
minus_together (d ∷ ds) m = and_from (joins 45 d) (together (d ∷ ds)) (ap (λ t. t || false) (and_parts (is_digit d) (list_all is_digit ds) m.each).0) (digits_together d ds m.each)

numeral_by : (b : ℕ) (bs : List ℕ) (minus : Bool) → eqb b 45 ≡ minus → are_digits (cond minus bs (b ∷ bs)) ≡ true → together (b ∷ bs) ≡ true
numeral_by b bs true e h = subst (λ c. together (c ∷ bs) ≡ true) (sym (eqb-true b 45 e)) (minus_together bs (magnitude_of bs h))
numeral_by b bs false e h = magnitude_together (b ∷ bs) (magnitude_of (b ∷ bs) h)

-- a numeral holds together
pub numeral_together : (n : Numeral) → is_numeral n ≡ true → together n ≡ true
numeral_together [] h = magnitude_together [] (magnitude_of [] h)
numeral_together (b ∷ bs) h = numeral_by b bs (eqb b 45) refl h

-- no text goes on with a sign
pub last_before_sign : (t : List ℕ) (c : ℕ) → is_digit c ≡ false → is_letter c ≡ false → last_goes_on t (c ∷ []) ≡ false
last_before_sign [] c h k = refl
last_before_sign (b ∷ []) c h k = joins_no b c h k
last_before_sign (b ∷ b' ∷ bs) c h k = last_before_sign (b' ∷ bs) c h k

sign_before : (c : ℕ) (t : List ℕ) → ((d : ℕ) → joins c d ≡ false) → last_goes_on (c ∷ []) t ≡ false
sign_before c [] h = refl
sign_before c (d ∷ ds) h = h d

-- ---- vectors

pub more_apart : (ns : List Numeral) → list_all is_numeral ns ≡ true → Apart (more_texts ns)
more_apart [] h = (refl, tt, tt)
more_apart (n ∷ []) h = (refl, sign_before 44 n (λ d. refl), (numeral_together n (and_parts (is_numeral n) true h).0, last_before_sign n 125 refl refl, more_apart [] refl))
more_apart (n ∷ m ∷ ns) h =
    let parts : (is_numeral n ≡ true) × (list_all is_numeral (m ∷ ns) ≡ true) = and_parts (is_numeral n) (list_all is_numeral (m ∷ ns)) h in
    (refl, sign_before 44 n (λ d. refl), (numeral_together n parts.0, last_before_sign n 44 refl refl, more_apart (m ∷ ns) parts.1))

pub vector_apart : (ns : List Numeral) → list_all is_numeral ns ≡ true → Apart (vector_texts ns)
vector_apart [] h = (refl, refl, (refl, tt, tt))
vector_apart (n ∷ ns) h = (refl, sign_before 123 n (λ d. refl), (more_apart (n ∷ ns) h).2)
