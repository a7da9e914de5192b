-- The recognizer goes over blanks, digits and numerals.
use Rattle.std.proofs.Common.{◌≡◌, ℕ, zero, suc, ◌+◌, ◌-◌, ◌≤◌, List, [], ◌∷◌, ◌++◌, length, Bool, true, false, cond, ◌&&◌, ◌||◌, eqb, leb, Option, Some, None, refl, sym, ◌∙◌, ap, subst, arith, append_assoc}
use Rattle.std.proofs.lemmas.Bool.{eqb-true, and_parts, ne_eqb, leb-true}
use Rattle.std.specs.List.{list_all}
use Rattle.aol_shape.specs.Texts.{is_blank, is_digit, are_digits, is_numeral}
use Rattle.aol_shape.specs.Grammar.{IsText}
use Rattle.aol_shape.specs.Machine.{behind, ends, accepts}
use Rattle.aol_shape.proofs.Stuck.{behind-append}
use Rattle.aol_shape.specs.Tokens.{IsSpaced, separated, sign as token}
use Rattle.aol_vsl.specs.Text.{Numeral, vector_members, vector_grammar}
use Rattle.aol_vsl.specs.Reading.{Goal, sign, number, digit, digits, first_entry, next_entry, step, recognizer, begun, if_blank, vector_goals}

or_parts : (P : Type 0) (a b : Bool) → (a ≡ true → P) → (b ≡ true → P) → (a || b) ≡ true → P
or_parts P true b p q h = p refl
or_parts P false b p q h = q h

-- what holds of the four blanks holds of each byte that is one
pub of_blank : (P : ℕ → Type 0) → P 32 → P 9 → P 10 → P 13 → (b : ℕ) → is_blank b ≡ true → P b
of_blank P p q r s b h =
    let at : (n : ℕ) → P n → eqb b n ≡ true → P b = λ n x e. subst P (sym (eqb-true b n e)) x in
    or_parts (P b) ((eqb b 32 || eqb b 9) || eqb b 10) (eqb b 13)
    (or_parts (P b) (eqb b 32 || eqb b 9) (eqb b 10) (or_parts (P b) (eqb b 32) (eqb b 9) (at 32 p) (at 9 q)) (at 10 r)) (at 13 s) h

-- the goal allows blanks before it
abbrev pub Tolerates : List Goal → Type 0
Tolerates gs = (b : ℕ) → is_blank b ≡ true → step gs b ≡ Some gs

pub next-tolerates : (gs : List Goal) → Tolerates (next_entry ∷ gs)
next-tolerates gs = of_blank (λ b. step (next_entry ∷ gs) b ≡ Some (next_entry ∷ gs)) refl refl refl refl

pub first-tolerates : (gs : List Goal) → Tolerates (first_entry ∷ gs)
first-tolerates gs = of_blank (λ b. step (first_entry ∷ gs) b ≡ Some (first_entry ∷ gs)) refl refl refl refl

pub number-tolerates : (gs : List Goal) → Tolerates (number ∷ gs)
number-tolerates gs = of_blank (λ b. step (number ∷ gs) b ≡ Some (number ∷ gs)) refl refl refl refl

pub end-tolerates : Tolerates []
end-tolerates = of_blank (λ b. step [] b ≡ Some []) refl refl refl refl

-- blanks change nothing before a goal that allows them
pub over_blanks : (start gs : List Goal) → Tolerates gs → (gap : List ℕ) → list_all is_blank gap ≡ true → behind (recognizer start) (Some gs) gap ≡ Some gs
over_blanks start gs t [] h = refl
over_blanks start gs t (b ∷ gap) h =
    let parts : (is_blank b ≡ true) × (list_all is_blank gap ≡ true) = and_parts (is_blank b) (list_all is_blank gap) h in
    ap (λ o. behind (recognizer start) o gap) (t b parts.0) ∙ over_blanks start gs t gap parts.1

digit_step : (n b : ℕ) (gs : List Goal) → is_digit b ≡ true → step (digits (suc n) ∷ gs) b ≡ Some (digits n ∷ gs)
digit_step n b gs h = ap (λ t. cond t (Some (digits n ∷ gs)) (step gs b)) h

-- digits that there is room for are counted
pub over_digits : (start gs : List Goal) (n : ℕ) (ds : List ℕ) → list_all is_digit ds ≡ true → length ds ≤ n → behind (recognizer start) (Some (digits n ∷ gs)) ds ≡ Some (digits (n - length ds) ∷ gs)
over_digits start gs n [] h k = ap (λ m. Some (digits m ∷ gs)) (omega arith)
over_digits start gs zero (b ∷ ds) h k = absurd (omega (arith, k))
over_digits start gs (suc n) (b ∷ ds) h k =
    let parts : (is_digit b ≡ true) × (list_all is_digit ds ≡ true) = and_parts (is_digit b) (list_all is_digit ds) h in
    ap (λ o. behind (recognizer start) o ds) (digit_step n b gs parts.0)
    ∙ over_digits start gs n ds parts.1 (omega (arith, k))
    ∙ ap (λ m. Some (digits m ∷ gs)) (omega arith)

-- a byte that is no digit acts on what comes after the digits
pub past_digits : (n b : ℕ) (gs : List Goal) → is_digit b ≡ false → step (digits n ∷ gs) b ≡ step gs b
past_digits zero b gs h = refl
past_digits (suc n) b gs h = ap (λ t. cond t (Some (digits n ∷ gs)) (step gs b)) h

-- goals at which a numeral may begin
pub record Begins (goals behind_it : List Goal) : Type 0 where
  pub by_digit : (b : ℕ) → is_digit b ≡ true → step goals b ≡ Some (digits 18 ∷ behind_it)
  pub by_minus : step goals 45 ≡ Some (digit ∷ behind_it)

begun_by_digit : (b : ℕ) (gs : List Goal) (other : Option (List Goal)) → is_digit b ≡ true → begun b gs other ≡ Some (digits 18 ∷ gs)
begun_by_digit b gs other h = ap (λ t. cond t (Some (digits 18 ∷ gs)) (cond (eqb b 45) (Some (digit ∷ gs)) other)) h

pub number-begins : (gs : List Goal) → Begins (number ∷ gs) gs
number-begins gs = record { by_digit = λ b h. begun_by_digit b gs _ h; by_minus = refl }

digit_is_low : (b : ℕ) → is_digit b ≡ true → eqb b 125 ≡ false
digit_is_low b h = ne_eqb b 125 (λ e. absurd (omega (arith, e, leb-true b 57 (and_parts (leb 48 b) (leb b 57) h).1)))

pub first-begins : (gs : List Goal) → Begins (first_entry ∷ gs) (next_entry ∷ gs)
first-begins gs = record {
  by_digit = λ b h. ap (λ t. cond t (Some gs) (begun b (next_entry ∷ gs) (if_blank b (first_entry ∷ gs)))) (digit_is_low b h) ∙ begun_by_digit b (next_entry ∷ gs) _ h;
  by_minus = refl;
}

abbrev run : List Goal → Option (List Goal) → List ℕ → Option (List Goal)
run start o bs = behind (recognizer start) o bs

-- the parts of a magnitude's test
pub record Magnitude (ds : List ℕ) : Type 0 where
  pub least : 1 ≤ length ds
  pub most : length ds ≤ 19
  pub each : list_all is_digit ds ≡ true

pub magnitude_of : (ds : List ℕ) → are_digits ds ≡ true → Magnitude ds
magnitude_of ds h =
    let outer : ((leb 1 (length ds) && leb (length ds) 19) ≡ true) × (list_all is_digit ds ≡ true) = and_parts (leb 1 (length ds) && leb (length ds) 19) (list_all is_digit ds) h in
    let inner : (leb 1 (length ds) ≡ true) × (leb (length ds) 19 ≡ true) = and_parts (leb 1 (length ds)) (leb (length ds) 19) outer.0 in
    record { least = leb-true 1 (length ds) inner.0; most = leb-true (length ds) 19 inner.1; each = outer.1 }

over_signed : (start goals gs : List Goal) → Begins goals gs → (ds : List ℕ) → Magnitude ds → (k : ℕ) × (run start (Some goals) (45 ∷ ds) ≡ Some (digits k ∷ gs))
over_signed start goals gs g [] m = absurd (omega (arith, m.least))
over_signed start goals gs g (d ∷ ds) m =
    let parts : (is_digit d ≡ true) × (list_all is_digit ds ≡ true) = and_parts (is_digit d) (list_all is_digit ds) m.each in (
      18 - length ds,
      ap (λ o. run start o (d ∷ ds)) g.by_minus
          ∙ ap (λ t. run start (cond t (Some (digits 18 ∷ gs)) None) ds) parts.0
          ∙ over_digits start gs 18 ds parts.1 (omega (arith, m.most)),
    )

over_plain : (start goals gs : List Goal) → Begins goals gs → (ds : List ℕ) → Magnitude ds → (k : ℕ) × (run start (Some goals) ds ≡ Some (digits k ∷ gs))
over_plain start goals gs g [] m = absurd (omega (arith, m.least))
over_plain start goals gs g (d ∷ ds) m =
    let parts : (is_digit d ≡ true) × (list_all is_digit ds ≡ true) = and_parts (is_digit d) (list_all is_digit ds) m.each in
    (18 - length ds, ap (λ o. run start o ds) (g.by_digit d parts.0) ∙ over_digits start gs 18 ds parts.1 (omega (arith, m.most)))

by_sign : (start goals gs : List Goal) → Begins goals gs → (b : ℕ) (bs : List ℕ) (minus : Bool) → eqb b 45 ≡ minus → are_digits (cond minus bs (b ∷ bs)) ≡ true
    → (k : ℕ) × (run start (Some goals) (b ∷ bs) ≡ Some (digits k ∷ gs))
by_sign start goals gs g b bs true e h = subst (λ c. (k : ℕ) × (run start (Some goals) (c ∷ bs) ≡ Some (digits k ∷ gs))) (sym (eqb-true b 45 e)) (over_signed start goals gs g bs (magnitude_of bs h))
by_sign start goals gs g b bs false e h = over_plain start goals gs g (b ∷ bs) (magnitude_of (b ∷ bs) h)

-- a numeral is gone over, and some digits could follow
pub over_numeral : (start goals gs : List Goal) → Begins goals gs → (t : List ℕ) → is_numeral t ≡ true → (k : ℕ) × (run start (Some goals) t ≡ Some (digits k ∷ gs))
over_numeral start goals gs g [] h = over_plain start goals gs g [] (magnitude_of [] h)
over_numeral start goals gs g (b ∷ bs) h = by_sign start goals gs g b bs (eqb b 45) refl h

blank_is_no_digit : (b : ℕ) → is_blank b ≡ true → is_digit b ≡ false
blank_is_no_digit = of_blank (λ b. is_digit b ≡ false) refl refl refl refl

-- after a numeral, blanks and then a byte that is no digit act on what comes after it
pub past_numeral : (start gs : List Goal) (k c : ℕ) (gap rest : List ℕ) → Tolerates gs → list_all is_blank gap ≡ true → is_digit c ≡ false
    → run start (Some (digits k ∷ gs)) (gap ++ c ∷ rest) ≡ run start (step gs c) rest
past_numeral start gs k c [] rest t h n = ap (λ o. run start o rest) (past_digits k c gs n)
past_numeral start gs k c (b ∷ gap) rest t h n =
    let parts : (is_blank b ≡ true) × (list_all is_blank gap ≡ true) = and_parts (is_blank b) (list_all is_blank gap) h in
    ap (λ o. run start o (gap ++ c ∷ rest)) (past_digits k b gs (blank_is_no_digit b parts.0) ∙ t b parts.0)
    ∙ behind-append (recognizer start) (Some gs) gap (c ∷ rest)
    ∙ ap (λ o. run start o (c ∷ rest)) (over_blanks start gs t gap parts.1)

over_member : (start goals gs : List Goal) → Begins goals gs → Tolerates goals → (gap n : List ℕ) → list_all is_blank gap ≡ true → is_numeral n ≡ true → (k : ℕ) × (run start (Some goals) (gap ++ n) ≡ Some (digits k ∷ gs))
over_member start goals gs g t gap n h d =
    let f : (k : ℕ) × (run start (Some goals) n ≡ Some (digits k ∷ gs)) = over_numeral start goals gs g n d in
    (f.0, behind-append (recognizer start) (Some goals) gap n ∙ ap (λ o. run start o n) (over_blanks start goals t gap h) ∙ f.1)

-- a numeral with blanks before it, and then blanks and a byte that is no digit
pub over_part : (start goals gs : List Goal) (c : ℕ) → Begins goals gs → Tolerates goals → Tolerates gs → is_digit c ≡ false → (n : Numeral) → is_numeral n ≡ true
    → (bytes gap rest gap' rest' : List ℕ) → bytes ≡ gap ++ n ++ rest → list_all is_blank gap ≡ true → rest ≡ gap' ++ (c ∷ []) ++ rest' → list_all is_blank gap' ≡ true
    → run start (Some goals) bytes ≡ run start (step gs c) rest'
over_part start goals gs c g t u nc n hn bytes gap rest gap' rest' e h e' h' =
    let f : (k : ℕ) × (run start (Some goals) (gap ++ n) ≡ Some (digits k ∷ gs)) = over_member start goals gs g t gap n h hn in
    ap (run start (Some goals)) e
    ∙ behind-append (recognizer start) (Some goals) (gap ++ n) rest
    ∙ ap (λ o. run start o rest) f.1
    ∙ ap (run start (Some (digits f.0 ∷ gs))) (e' ∙ append_assoc gap' (c ∷ []) rest')
    ∙ past_numeral start gs f.0 c gap' rest' u h' nc

-- entries with commas between them and a closing brace are gone over
pub over_entries : (start goals : List Goal) → Begins goals (next_entry ∷ []) → Tolerates goals → (n : Numeral) (ns : List Numeral) (j : ℕ) → list_all is_numeral (n ∷ ns) ≡ true
    → (bytes : List ℕ) → IsSpaced bytes (separated (vector_members j (n ∷ ns)) ++ token 125 ∷ []) → run start (Some goals) bytes ≡ Some []
over_entries start goals g t n [] j h bytes s =
    let parts : (is_numeral n ≡ true) × (list_all is_numeral [] ≡ true) = and_parts (is_numeral n) (list_all is_numeral []) h in
    over_part start goals (next_entry ∷ []) 125 g t (next-tolerates []) refl n parts.0 bytes s.0 s.1 s.4.0 s.4.1 s.2 s.3 s.4.2 s.4.3
    ∙ over_blanks start [] end-tolerates s.4.1 s.4.4
over_entries start goals g t n (n' ∷ ns) j h bytes s =
    let parts : (is_numeral n ≡ true) × (list_all is_numeral (n' ∷ ns) ≡ true) = and_parts (is_numeral n) (list_all is_numeral (n' ∷ ns)) h in
    over_part start goals (next_entry ∷ []) 44 g t (next-tolerates []) refl n parts.0 bytes s.0 s.1 s.4.0 s.4.1 s.2 s.3 s.4.2 s.4.3
    ∙ over_entries start (number ∷ next_entry ∷ []) (number-begins (next_entry ∷ [])) (number-tolerates (next_entry ∷ [])) n' ns (j + 1) parts.1 s.4.1 s.4.4

open-tolerates : (gs : List Goal) → Tolerates (sign 123 ∷ gs)
open-tolerates gs = of_blank (λ b. step (sign 123 ∷ gs) b ≡ Some (sign 123 ∷ gs)) refl refl refl refl

-- blanks and then a byte act as the byte
pub over_sign : (start goals : List Goal) (c : ℕ) → Tolerates goals → (bytes gap rest : List ℕ) → bytes ≡ gap ++ (c ∷ []) ++ rest → list_all is_blank gap ≡ true
    → run start (Some goals) bytes ≡ run start (step goals c) rest
over_sign start goals c t bytes gap rest e h =
    ap (run start (Some goals)) (e ∙ append_assoc gap (c ∷ []) rest)
    ∙ behind-append (recognizer start) (Some goals) gap (c ∷ rest)
    ∙ ap (λ o. run start o (c ∷ rest)) (over_blanks start goals t gap h)

over_body : (w : List Numeral) → list_all is_numeral w ≡ true → (bytes : List ℕ) → IsSpaced bytes (separated (vector_members 0 w) ++ token 125 ∷ []) → run vector_goals (Some (first_entry ∷ [])) bytes ≡ Some []
over_body [] h bytes s = over_sign vector_goals (first_entry ∷ []) 125 (first-tolerates []) bytes s.0 s.1 s.2 s.3 ∙ over_blanks vector_goals [] end-tolerates s.1 s.4
over_body (n ∷ ns) h bytes s = over_entries vector_goals (first_entry ∷ []) (first-begins []) (first-tolerates []) n ns 0 h bytes s

-- each spelling of a vector is accepted
pub vector-accepted : (bytes : List ℕ) → IsText vector_grammar bytes → accepts (recognizer vector_goals) bytes ≡ true
vector-accepted bytes v = ap (ends (recognizer vector_goals))
    (over_sign vector_goals vector_goals 123 (open-tolerates (first_entry ∷ [])) bytes v.1.spaced.0 v.1.spaced.1 v.1.spaced.2 v.1.spaced.3
    ∙ over_body v.0 v.1.well v.1.spaced.1 v.1.spaced.4)
