-- Where a tiler's text is stuck is where it fails.
use Rattle.std.proofs.Common.{◌≡◌, ℕ, suc, ◌+◌, List, [], ◌∷◌, ◌++◌, map, Bool, true, Option, Some, None, Err, refl, sym, ◌∙◌, ap, subst, append_assoc, codes}
use Rattle.std.proofs.lemmas.List.{map-append}
use Rattle.aol_shape.specs.Tokens.{Token, plain, sign as token, separated, braced}
use Rattle.aol_shape.specs.Grammar.{at, IsText, IsTextOf, Reads, limited, reading}
use Rattle.aol_shape.specs.Machine.{accepts, stuck_at}
use Rattle.aol_shape.specs.Texts.{numeral_value, FailsAt}
use Rattle.aol_shape.proofs.Stuck.{stuck-fails}
use Rattle.aol_vsl.specs.Text.{Numeral, WrittenTiler, is_written_tiler, tiler_grammar, tiler_tokens, column_members, column_limit, column_tokens, columns_from, vector_tokens, matrix_tokens, member}
use Rattle.aol_vsl.specs.Reading.{recognizer, tiler_goals, tiler_reading, written_tiler}
use Rattle.aol_vsl.proofs.Spaced.{Spaced, texts, to_spaced, from_spaced, more_texts, vector_texts, more_columns, first_columns, matrix_texts, name_texts, tiler_texts}
use Rattle.aol_vsl.proofs.SoundTilers.{tiler_sound}
use Rattle.aol_vsl.proofs.CompleteTilers.{tiler_accepted}
use Rattle.aol_vsl.proofs.Grammars.{vector_texts_are}
use Rattle.aol_vsl.proofs.Live.{live}
use Rattle.aol_vsl.proofs.Limits.{unstuck}
use Rattle.aol_vsl.proofs.Right.{limited_right}
use Rattle.aol_vsl.proofs.Lexemes.{lexed, lexed_texts, Apart}
use Rattle.aol_vsl.proofs.TilerLexemes.{tiler_apart}
use Rattle.aol_vsl.proofs.TilerWritten.{written_is}

column_more : (j k : ℕ) (n : Numeral) (ns : List Numeral) → texts (separated (column_members j k (n ∷ ns)) ++ token 125 ∷ []) ≡ n ∷ more_texts ns
column_more j k n [] = refl
column_more j k n (m ∷ ns) = ap (λ ts. n ∷ (44 ∷ []) ∷ ts) (column_more j (k + 1) m ns)

column_texts : (j : ℕ) (c : List Numeral) → texts (column_tokens j c) ≡ vector_texts c
column_texts j [] = refl
column_texts j (n ∷ ns) = ap (λ ts. (123 ∷ []) ∷ ts) (column_more j 0 n ns)

columns_texts : (j : ℕ) (c : List Numeral) (cs : List (List Numeral)) → texts (separated (columns_from j (c ∷ cs)) ++ token 125 ∷ []) ≡ vector_texts c ++ more_columns cs
columns_texts j c [] = map-append (λ (t : Token). t.text) (column_tokens j c) (token 125 ∷ []) ∙ ap (λ ts. ts ++ (125 ∷ []) ∷ []) (column_texts j c)
columns_texts j c (d ∷ cs) =
    let rest : List Token = separated (columns_from (j + 1) (d ∷ cs)) in
    ap texts (append_assoc (column_tokens j c) (token 44 ∷ rest) (token 125 ∷ []))
    ∙ map-append (λ (t : Token). t.text) (column_tokens j c) (token 44 ∷ (rest ++ token 125 ∷ []))
    ∙ ap (λ ts. ts ++ (44 ∷ []) ∷ texts (rest ++ token 125 ∷ [])) (column_texts j c)
    ∙ ap (λ ts. vector_texts c ++ (44 ∷ []) ∷ ts) (columns_texts (j + 1) d cs)

matrix_texts_are : (cs : List (List Numeral)) → texts (matrix_tokens cs) ≡ matrix_texts cs
matrix_texts_are [] = refl
matrix_texts_are (c ∷ cs) = ap (λ ts. (123 ∷ []) ∷ ts) (columns_texts 0 c cs)

pub four : (a b c d : List Token) → ((a ++ b) ++ c) ++ d ≡ a ++ (b ++ (c ++ d))
four a b c d = simp append_assoc

-- a tiler's tokens have its texts
pub tiler_texts_are : (w : WrittenTiler) → texts (tiler_tokens w) ≡ tiler_texts w
tiler_texts_are w =
    let o : List Token = vector_tokens w.origin in
    let p : List Token = matrix_tokens w.paving in
    let f : List Token = matrix_tokens w.fitting in
    let name : ℕ → List ℕ → List Token → List Token = λ c n ts. token c ∷ plain n ∷ token 61 ∷ ts in
    let e : List Token = token 41 ∷ [] in
    ap texts (four (name 40 (codes "origin") o) (name 44 (codes "paving") p) (name 44 (codes "fitting") f) e)
    ∙ ap (λ ts. (40 ∷ []) ∷ codes "origin" ∷ (61 ∷ []) ∷ ts)
    (map-append (λ (t : Token). t.text) o (name 44 (codes "paving") p ++ (name 44 (codes "fitting") f ++ e))
    ∙ ap (λ ts. ts ++ texts (name 44 (codes "paving") p ++ (name 44 (codes "fitting") f ++ e))) (vector_texts_are w.origin)
    ∙ ap (λ ts. vector_texts w.origin ++ ((44 ∷ []) ∷ codes "paving" ∷ (61 ∷ []) ∷ ts))
    (map-append (λ (t : Token). t.text) p (name 44 (codes "fitting") f ++ e)
    ∙ ap (λ ts. ts ++ texts (name 44 (codes "fitting") f ++ e)) (matrix_texts_are w.paving)
    ∙ ap (λ ts. matrix_texts w.paving ++ ((44 ∷ []) ∷ codes "fitting" ∷ (61 ∷ []) ∷ ts))
    (map-append (λ (t : Token). t.text) f e ∙ ap (λ ts. ts ++ (41 ∷ []) ∷ []) (matrix_texts_are w.fitting))))

pub sound : (bytes : List ℕ) → accepts (recognizer tiler_goals) bytes ≡ true → IsText tiler_grammar bytes
sound bytes h =
    let w : (w : WrittenTiler) × (is_written_tiler w ≡ true) × Spaced bytes (tiler_texts w) = tiler_sound bytes h in
    (w.0, record { well = w.1; spaced = from_spaced bytes (tiler_tokens w.0) (subst (Spaced bytes) (sym (tiler_texts_are w.0)) w.2) })

complete : (bytes : List ℕ) → IsText tiler_grammar bytes → accepts (recognizer tiler_goals) bytes ≡ true
complete bytes t = tiler_accepted bytes t.0 t.1.well (subst (Spaced bytes) (tiler_texts_are t.0) (to_spaced bytes (tiler_tokens t.0) t.1.spaced))

-- where a tiler's text is stuck is the length of its longest viable front
pub tiler_fails : (text : List ℕ) (byte : ℕ) → stuck_at (recognizer tiler_goals) text ≡ Some byte → Reads tiler_grammar text (Err (at byte))
tiler_fails text byte e = stuck-fails (recognizer tiler_goals) (IsText tiler_grammar) sound complete (λ front gs h. live tiler_goals tt front gs h) text byte e

-- the texts of a tiler that a text spells stand apart
pub apart_of : (w : WrittenTiler) → is_written_tiler w ≡ true → Apart (texts (tiler_tokens w))
apart_of w h = subst Apart (sym (tiler_texts_are w)) (tiler_apart w h)

-- the lexemes of a text write what it spells
pub spelled_tiler : (bytes : List ℕ) (w : WrittenTiler) → IsTextOf tiler_grammar bytes w → written_tiler (lexed 0 bytes) ≡ w
spelled_tiler bytes w t = written_is w t.well (lexed 0 bytes) (lexed_texts (tiler_texts w) (tiler_apart w t.well) 0 bytes (subst (Spaced bytes) (tiler_texts_are w) (to_spaced bytes (tiler_tokens w) t.spaced)))

right_by : (text : List ℕ) (o : Option ℕ) → stuck_at (recognizer tiler_goals) text ≡ o → Reads tiler_grammar text (reading tiler_grammar o (lexed 0 text) written_tiler)
right_by text (Some byte) e = tiler_fails text byte e
right_by text None e =
    let t : IsText tiler_grammar text = sound text (unstuck (recognizer tiler_goals) 0 tiler_goals text e) in
    subst (λ w. Reads tiler_grammar text (limited tiler_grammar (lexed 0 text) w)) (sym (spelled_tiler text t.0 t.1)) (limited_right tiler_grammar (λ w. refl) text t.0 t.1 (apart_of t.0 t.1.well))

-- what reading a tiler answers is right by the grammar
pub tiler_right : (text : List ℕ) → Reads tiler_grammar text (tiler_reading text)
tiler_right text = right_by text (stuck_at (recognizer tiler_goals) text) refl

-- a text spells one tiler at most
pub tiler_once : (text : List ℕ) (v w : WrittenTiler) → IsTextOf tiler_grammar text v → IsTextOf tiler_grammar text w → tiler_grammar.value v ≡ tiler_grammar.value w
tiler_once text v w s t = ap tiler_grammar.value (sym (spelled_tiler text v s) ∙ spelled_tiler text w t)
