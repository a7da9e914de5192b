-- Reading shapes and vectors is their grammar.
use Rattle.std.proofs.Common.{◌≡◌, ℕ, suc, ◌+◌, ◌*◌, ℤ, nat_abs, List, [], ◌∷◌, ◌++◌, map, filter, Bool, true, Option, Some, None, Result, Ok, Err, refl, sym, ◌∙◌, ap, subst}
use Rattle.std.specs.List.{list_all}
use Rattle.aol_shape.specs.declared.limit.LimitName.{LimitName}
use Rattle.aol_shape.specs.Texts.{is_numeral, numeral_value, FailsAt}
use Rattle.aol_shape.specs.Tokens.{Token, IsSpaced, braced}
use Rattle.aol_shape.specs.Grammar.{Grammar, TextFault, at, limit, IsTextOf, IsText, Reads, limited, reading}
use Rattle.aol_shape.specs.Machine.{accepts, stuck_at}
use Rattle.aol_shape.proofs.Stuck.{stuck-fails}
use Rattle.aol_vsl.specs.Text.{Numeral, vector_limit, shape_limit, vector_grammar, shape_grammar}
use Rattle.aol_vsl.specs.Reading.{Goal, recognizer, vector_goals, numerals, vector_reading, shape_reading}
use Rattle.aol_vsl.proofs.Accepts.{vector-accepted}
use Rattle.aol_vsl.proofs.Spaced.{Spaced, texts, to_spaced, from_spaced, vector_texts}
use Rattle.aol_vsl.proofs.Sound.{vector_sound}
use Rattle.aol_vsl.proofs.Lexemes.{lexed, lexed_texts, vector_apart, Apart}
use Rattle.aol_vsl.proofs.Limits.{members, members_texts, numerals_are, unstuck}
use Rattle.aol_vsl.proofs.Entries.{same_number, vector_members_are, shape_members_are}
use Rattle.aol_vsl.proofs.Live.{live}
use Rattle.aol_vsl.proofs.Right.{limited_right}

-- bytes that spell numerals as a vector
abbrev pub Spells : List ℕ → List Numeral → Type 0
Spells bytes ns = (list_all is_numeral ns ≡ true) × Spaced bytes (vector_texts ns)

module _ {V : Type 0} (g : Grammar (List Numeral) (List V)) (is_written : (ns : List Numeral) → g.is_written ns ≡ list_all is_numeral ns) (texts_are : (ns : List Numeral) → texts (g.tokens ns) ≡ vector_texts ns) where
  pub to_spells : (bytes : List ℕ) (ns : List Numeral) → IsTextOf g bytes ns → Spells bytes ns
  to_spells bytes ns t = (sym (is_written ns) ∙ t.well, subst (Spaced bytes) (texts_are ns) (to_spaced bytes (g.tokens ns) t.spaced))

  pub from_spells : (bytes : List ℕ) (ns : List Numeral) → Spells bytes ns → IsTextOf g bytes ns
  from_spells bytes ns s = record { well = is_written ns ∙ s.0; spaced = from_spaced bytes (g.tokens ns) (subst (Spaced bytes) (sym (texts_are ns)) s.1) }

-- the numerals of a text are those it spells
pub spelled_numerals : (bytes : List ℕ) (ns : List Numeral) → Spells bytes ns → numerals (lexed 0 bytes) ≡ ns
spelled_numerals bytes ns s = ap (filter is_numeral) (lexed_texts (vector_texts ns) (vector_apart ns s.0) 0 bytes s.1) ∙ numerals_are ns s.0

pub vector_texts_are : (ns : List Numeral) → texts (vector_grammar.tokens ns) ≡ vector_texts ns
vector_texts_are ns = ap (λ ms. texts (braced ms)) (vector_members_are 0 ns) ∙ members_texts vector_limit (λ k z. k + 1) same_number 0 ns

shape_texts_are : (ns : List Numeral) → texts (shape_grammar.tokens ns) ≡ vector_texts ns
shape_texts_are ns = ap (λ ms. texts (braced ms)) (shape_members_are (0, 1) ns) ∙ members_texts (λ s. shape_limit s.0 s.1) (λ s z. (s.0 + 1, s.1 * nat_abs z)) nat_abs (0, 1) ns

-- each spelling is accepted
pub spells_accepted : (bytes : List ℕ) (ns : List Numeral) → Spells bytes ns → accepts (recognizer vector_goals) bytes ≡ true
spells_accepted bytes ns s = vector-accepted bytes (ns, from_spells vector_grammar (λ ms. refl) vector_texts_are bytes ns s)

module _ {V : Type 0} (g : Grammar (List Numeral) (List V)) (is_written : (ns : List Numeral) → g.is_written ns ≡ list_all is_numeral ns) (texts_are : (ns : List Numeral) → texts (g.tokens ns) ≡ vector_texts ns)
    (no_whole : (ns : List Numeral) → g.whole_limit ns ≡ None) where
  sound : (bytes : List ℕ) → accepts (recognizer vector_goals) bytes ≡ true → IsText g bytes
  sound bytes h = let w : (ns : List Numeral) × (list_all is_numeral ns ≡ true) × Spaced bytes (vector_texts ns) = vector_sound bytes h in (w.0, from_spells g is_written texts_are bytes w.0 (w.1, w.2))

  complete : (bytes : List ℕ) → IsText g bytes → accepts (recognizer vector_goals) bytes ≡ true
  complete bytes t = spells_accepted bytes t.0 (to_spells g is_written texts_are bytes t.0 t.1)

  entries_by : (text : List ℕ) (o : Option ℕ) → stuck_at (recognizer vector_goals) text ≡ o → Reads g text (reading g o (lexed 0 text) numerals)
  entries_by text (Some byte) e = stuck-fails (recognizer vector_goals) (IsText g) sound complete (λ front gs h. live vector_goals tt front gs h) text byte e
  entries_by text None e =
      let w : (ns : List Numeral) × (list_all is_numeral ns ≡ true) × Spaced text (vector_texts ns) = vector_sound text (unstuck (recognizer vector_goals) 0 vector_goals text e) in
      let apart : Apart (texts (g.tokens w.0)) = subst Apart (sym (texts_are w.0)) (vector_apart w.0 w.1) in
      subst (λ ns. Reads g text (limited g (lexed 0 text) ns)) (sym (spelled_numerals text w.0 (w.1, w.2))) (limited_right g no_whole text w.0 (from_spells g is_written texts_are text w.0 (w.1, w.2)) apart)

  -- what reading answers is right by the grammar
  pub entries_right : (text : List ℕ) → Reads g text (reading g (stuck_at (recognizer vector_goals) text) (lexed 0 text) numerals)
  entries_right text = entries_by text (stuck_at (recognizer vector_goals) text) refl

  -- a text has one reading
  pub entries_once : (text : List ℕ) (v w : List Numeral) → IsTextOf g text v → IsTextOf g text w → v ≡ w
  entries_once text v w s t = sym (spelled_numerals text v (to_spells g is_written texts_are text v s)) ∙ spelled_numerals text w (to_spells g is_written texts_are text w t)

pub vector_right : (text : List ℕ) → Reads vector_grammar text (vector_reading text)
vector_right text = entries_right vector_grammar (λ ns. refl) vector_texts_are (λ ns. refl) text

pub shape_right : (text : List ℕ) → Reads shape_grammar text (shape_reading text)
shape_right text = entries_right shape_grammar (λ ns. refl) shape_texts_are (λ ns. refl) text

pub vector_once : (text : List ℕ) (v w : List Numeral) → IsTextOf vector_grammar text v → IsTextOf vector_grammar text w → vector_grammar.value v ≡ vector_grammar.value w
vector_once text v w s t = ap (map numeral_value) (entries_once vector_grammar (λ ns. refl) vector_texts_are (λ ns. refl) text v w s t)

pub shape_once : (text : List ℕ) (v w : List Numeral) → IsTextOf shape_grammar text v → IsTextOf shape_grammar text w → shape_grammar.value v ≡ shape_grammar.value w
shape_once text v w s t = ap (map (λ n. nat_abs (numeral_value n))) (entries_once shape_grammar (λ ns. refl) shape_texts_are (λ ns. refl) text v w s t)
