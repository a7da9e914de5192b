-- One lexeme of a column or of a matrix.
use Rattle.std.proofs.Common.{◌≡◌, ℕ, ◌+◌, ◌<◌, ℤ, List, [], ◌∷◌, ◌++◌, length, true, false, cond, leb, Some, None, Result, Ok, Err, sym, ◌∙◌, ap}
use Rattle.std.proofs.lemmas.Bool.{leb-false}
use Rattle.aol_shape.specs.declared.limit.LimitName.TheVariants.{Rank}
use Rattle.aol_shape.specs.Texts.{is_numeral, numeral_value}
use Rattle.aol_shape.specs.Grammar.{TextFault, limit, Lexeme}
use Rattle.aol_tiler.specs.Matrices.{TilerOf}
use Rattle.aol_vsl.specs.Answers.{Gives}
use Rattle.aol_vsl.specs.Number.{lexemes_at}
use Rattle.aol_vsl.specs.declared.refused.VslRefused.{VslRefused}
use Rattle.aol_vsl.specs.declared.refused.VslRefused.TheVariants.{At, Limit, NoMemory}
use Rattle.aol_vsl.specs.Text.{column_limit, vector_limit}
use Rattle.aol_shape.specs.Machine.{stuck_at}
use Rattle.aol_vsl.specs.Reading.{recognizer, tiler_goals, tiler_reading}
use Rattle.aol_vsl.specs.Walk.{walked, then_read, begins, behind_brace, close_limit, column_walk, matrix_walk}
use Rattle.aol_vsl.proofs.Sound.{by_test}
use Rattle.aol_vsl.proofs.TilerWalk.{matrix_inside, tiler_reading_is}

-- an entry that passes no limit is in one of the first columns
pub column_limit_none : (j k : ℕ) (z : ℤ) → column_limit j k z ≡ None → (j < 12) × (vector_limit k z ≡ None)
column_limit_none j k z h =
    by_test _ (leb 12 j) (λ e. cc) (λ e. (leb-false 12 j e, ap (λ t. cond t (Some Rank) (vector_limit k z)) (sym e) ∙ h))

-- a numeral that passes no limit is an entry
pub column_entry : (j opened : ℕ) (vs : List ℤ) (l : Lexeme) (ls rest : List Lexeme) → ls ≡ l ∷ rest → begins 125 l ≡ false → is_numeral l.text ≡ true → (z : ℤ) → z ≡ numeral_value l.text → column_limit j (length vs) z ≡ None
    → column_walk j opened vs ls ≡ column_walk j opened (vs ++ z ∷ []) rest
column_entry j opened vs l ls rest is h n z e k =
    let further : ℤ → Result (List ℤ × List Lexeme) TextFault = λ y. walked (column_limit j (length vs) y) l.start (column_walk j opened (vs ++ y ∷ []) rest) in
    let other : Result (List ℤ × List Lexeme) TextFault = column_walk j opened vs rest in
    let y : ℤ = numeral_value l.text in
    ap (column_walk j opened vs) is
    ∙ ap (λ t. cond t (walked (close_limit j vs) opened (Ok (vs, rest))) (cond (is_numeral l.text) (further y) other)) h
    ∙ ap (λ t. cond t (further y) other) n
    ∙ ap further (sym e)
    ∙ ap (λ o. walked o l.start (column_walk j opened (vs ++ z ∷ []) rest)) k

-- what a part is refused for is what the whole is refused for
pub refused_then : {A B : Type 0} (e : VslRefused) (r : Result A TextFault) (next : A → Result B TextFault) (whole : Result B TextFault) → Gives (Err e) r → whole ≡ then_read r next → Gives (Err e) whole
refused_then (At byte) r next whole g h = h ∙ ap (λ s. then_read s next) g
refused_then (Limit byte passed) r next whole g h = h ∙ ap (λ s. then_read s next) g
refused_then NoMemory r next whole g h = tt

-- what comes after a column
abbrev pub after_column : List (List ℤ) → List ℤ × List Lexeme → Result (List (List ℤ) × List Lexeme) TextFault
after_column cs r = matrix_walk None (cs ++ r.0 ∷ []) r.1

-- an opening brace begins a column
pub matrix_column : (cs : List (List ℤ)) (l : Lexeme) (ls rest : List Lexeme) (j : ℕ) → ls ≡ l ∷ rest → j ≡ length cs → begins 125 l ≡ false → begins 123 l ≡ true
    → matrix_walk None cs ls ≡ then_read (column_walk j l.start [] rest) (after_column cs)
matrix_column cs l ls rest j is e h n =
    let further : Result (List (List ℤ) × List Lexeme) TextFault = matrix_walk (Some (l.start, [])) cs rest in
    let other : Result (List (List ℤ) × List Lexeme) TextFault = matrix_walk None cs rest in
    ap (matrix_walk None cs) is
    ∙ ap (λ t. cond t (Ok (cs, rest)) (cond (begins 123 l) further other)) h
    ∙ ap (λ t. cond t further other) n
    ∙ sym (matrix_inside cs l.start [] rest)
    ∙ ap (λ i. then_read (column_walk i l.start [] rest) (after_column cs)) (sym e)

-- ---- a tiler

-- what comes after an origin and a paving
abbrev pub behind_paving : List ℤ → List (List ℤ) × List Lexeme → Result TilerOf TextFault
behind_paving o p = then_read (matrix_walk None [] (behind_brace p.1)) (λ f. Ok (record { origin = o; paving = p.0; fitting = f.0 }))

-- what comes after an origin
abbrev pub behind_origin : List ℤ × List Lexeme → Result TilerOf TextFault
behind_origin o = then_read (matrix_walk None [] (behind_brace o.1)) (behind_paving o.0)

module _ (text : List ℕ) (a : ℕ) (e : stuck_at (recognizer tiler_goals) text ≡ None) (at_a : lexemes_at text a ≡ behind_brace (lexemes_at text 0)) where
  pub origin_first : tiler_reading text ≡ then_read (column_walk 0 0 [] (lexemes_at text a)) behind_origin
  origin_first = tiler_reading_is text e ∙ ap (λ ls. then_read (column_walk 0 0 [] ls) behind_origin) (sym at_a)

  module _ (o : List ℤ) (b c : ℕ) (origin : column_walk 0 0 [] (lexemes_at text a) ≡ Ok (o, lexemes_at text b)) (at_c : lexemes_at text c ≡ behind_brace (lexemes_at text b)) where
    pub paving_then : tiler_reading text ≡ then_read (matrix_walk None [] (lexemes_at text c)) (behind_paving o)
    paving_then = origin_first ∙ ap (λ r. then_read r behind_origin) origin ∙ ap (λ ls. then_read (matrix_walk None [] ls) (behind_paving o)) (sym at_c)

    pub fitting_last : (p : List (List ℤ)) (d f : ℕ) → matrix_walk None [] (lexemes_at text c) ≡ Ok (p, lexemes_at text d) → lexemes_at text f ≡ behind_brace (lexemes_at text d)
        → tiler_reading text ≡ then_read (matrix_walk None [] (lexemes_at text f)) (λ q. Ok (record { origin = o; paving = p; fitting = q.0 }))
    fitting_last p d f paving at_f = paving_then ∙ ap (λ r. then_read r (behind_paving o)) paving ∙ ap (λ ls. then_read (matrix_walk None [] ls) (λ q. Ok (record { origin = o; paving = p; fitting = q.0 }))) (sym at_f)
