-- The lexemes of a tiler's text are its texts.
use Rattle.std.proofs.Common.{◌≡◌, ℕ, List, [], ◌∷◌, ◌++◌, Bool, true, false, ◌&&◌, refl, codes}
use Rattle.std.proofs.lemmas.Bool.{and_parts}
use Rattle.std.specs.List.{list_all}
use Rattle.aol_shape.specs.Texts.{is_digit, is_letter, is_numeral}
use Rattle.aol_vsl.specs.Text.{Numeral, WrittenTiler, is_written_tiler}
use Rattle.aol_vsl.proofs.Spaced.{vector_texts, more_columns, first_columns, matrix_texts, name_texts, tiler_texts}
use Rattle.aol_vsl.proofs.Lexemes.{together, last_goes_on, last_before_sign, Follows, Apart, vector_apart}

-- the first of the texts is a sign
abbrev IsSigned : List (List ℕ) → Type 0
IsSigned [] = Unit {0}
IsSigned (u ∷ us) = (c : ℕ) × (u ≡ c ∷ []) × (is_digit c ≡ false) × (is_letter c ≡ false)

before_signed : (t : List ℕ) (us : List (List ℕ)) → IsSigned us → Follows t us
before_signed t [] s = tt
before_signed t (u ∷ us) s = rw s.1 (last_before_sign t s.0 s.2 s.3)

apart_both : (ts us : List (List ℕ)) → Apart ts → IsSigned us → Apart us → Apart (ts ++ us)
apart_both [] us a s b = b
apart_both (t ∷ []) us a s b = (a.0, before_signed t us s, b)
apart_both (t ∷ u ∷ ts) us a s b = (a.0, a.1, apart_both (u ∷ ts) us a.2 s b)

more_signed : (cs : List (List Numeral)) → IsSigned (more_columns cs)
more_signed [] = (125, refl, refl, refl)
more_signed (c ∷ cs) = (44, refl, refl, refl)

more_columns_apart : (cs : List (List Numeral)) → list_all (list_all is_numeral) cs ≡ true → Apart (more_columns cs)
more_columns_apart [] h = (refl, tt, tt)
more_columns_apart (c ∷ cs) h =
    let parts : (list_all is_numeral c ≡ true) × (list_all (list_all is_numeral) cs ≡ true) = and_parts (list_all is_numeral c) (list_all (list_all is_numeral) cs) h in
    (refl, refl, apart_both (vector_texts c) (more_columns cs) (vector_apart c parts.0) (more_signed cs) (more_columns_apart cs parts.1))

matrix_apart : (cs : List (List Numeral)) → list_all (list_all is_numeral) cs ≡ true → Apart (matrix_texts cs)
matrix_apart [] h = (refl, refl, (refl, tt, tt))
matrix_apart (c ∷ cs) h =
    let parts : (list_all is_numeral c ≡ true) × (list_all (list_all is_numeral) cs ≡ true) = and_parts (list_all is_numeral c) (list_all (list_all is_numeral) cs) h in
    (refl, refl, apart_both (vector_texts c) (more_columns cs) (vector_apart c parts.0) (more_signed cs) (more_columns_apart cs parts.1))

-- a tiler's texts stand apart
pub tiler_apart : (w : WrittenTiler) → is_written_tiler w ≡ true → Apart (tiler_texts w)
tiler_apart w h =
    let outer : ((list_all is_numeral w.origin && list_all (list_all is_numeral) w.paving) ≡ true) × (list_all (list_all is_numeral) w.fitting ≡ true) = and_parts (list_all is_numeral w.origin && list_all (list_all is_numeral) w.paving) (list_all (list_all is_numeral) w.fitting) h in
    let inner : (list_all is_numeral w.origin ≡ true) × (list_all (list_all is_numeral) w.paving ≡ true) = and_parts (list_all is_numeral w.origin) (list_all (list_all is_numeral) w.paving) outer.0 in
    let t6 : List (List ℕ) = (41 ∷ []) ∷ [] in
    let t5 : List (List ℕ) = matrix_texts w.fitting ++ t6 in
    let t4 : List (List ℕ) = name_texts 44 (codes "fitting") ++ t5 in
    let t3 : List (List ℕ) = matrix_texts w.paving ++ t4 in
    let t2 : List (List ℕ) = name_texts 44 (codes "paving") ++ t3 in
    let t1 : List (List ℕ) = vector_texts w.origin ++ t2 in
    let a6 : Apart t6 = (refl, tt, tt) in
    let a5 : Apart t5 = apart_both (matrix_texts w.fitting) t6 (matrix_apart w.fitting outer.1) (41, refl, refl, refl) a6 in
    let a4 : Apart t4 = apart_both (name_texts 44 (codes "fitting")) t5 (refl, refl, (refl, refl, (refl, tt, tt))) (123, refl, refl, refl) a5 in
    let a3 : Apart t3 = apart_both (matrix_texts w.paving) t4 (matrix_apart w.paving inner.1) (44, refl, refl, refl) a4 in
    let a2 : Apart t2 = apart_both (name_texts 44 (codes "paving")) t3 (refl, refl, (refl, refl, (refl, tt, tt))) (123, refl, refl, refl) a3 in
    let a1 : Apart t1 = apart_both (vector_texts w.origin) t2 (vector_apart w.origin inner.0) (44, refl, refl, refl) a2 in
    apart_both (name_texts 40 (codes "origin")) t1 (refl, refl, (refl, refl, (refl, tt, tt))) (123, refl, refl, refl) a1
