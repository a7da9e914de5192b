-- Each spelling of a tiler is accepted.
use Rattle.std.proofs.Common.{◌≡◌, ℕ, suc, ◌+◌, List, [], ◌∷◌, ◌++◌, map, Bool, true, false, cond, ◌&&◌, eqb, Option, Some, None, refl, sym, ◌∙◌, ap, subst, append_assoc, codes}
use Rattle.std.proofs.lemmas.Bool.{eq-eqb, and_parts}
use Rattle.std.specs.List.{list_all}
use Rattle.aol_shape.specs.Texts.{is_blank, is_numeral}
use Rattle.aol_shape.specs.Machine.{behind, ends, accepts}
use Rattle.aol_vsl.specs.Text.{Numeral, WrittenTiler, is_written_tiler}
use Rattle.aol_vsl.specs.Reading.{Goal, sign, tight, number, first_entry, next_entry, first_column, next_column, step, recognizer, if_blank, tiler_goals, word}
use Rattle.aol_vsl.proofs.Accepts.{of_blank, Tolerates, Begins, next-tolerates, first-tolerates, number-tolerates, end-tolerates, over_blanks, number-begins, first-begins, over_part, over_sign}
use Rattle.aol_vsl.proofs.Parts.{sign_allows}
use Rattle.aol_vsl.proofs.Spaced.{Front, Spaced, more_texts, first_texts, vector_texts, more_columns, first_columns, matrix_texts, name_texts, tiler_texts}
use Rattle.aol_vsl.proofs.SoundTilers.{glued}

-- the texts in front, and those after them
front_split : (ts us : List (List ℕ)) (bs rest : List ℕ) → Front (ts ++ us) bs rest → (mid : List ℕ) × Front ts bs mid × Front us mid rest
front_split [] us bs rest f = (bs, refl, f)
front_split (t ∷ ts) us bs rest f = let r : (mid : List ℕ) × Front ts f.1 mid × Front us mid rest = front_split ts us f.1 rest f.4 in (r.0, (f.0, f.1, f.2, f.3, r.1), r.2)

spaced_front : (ts : List (List ℕ)) (bs : List ℕ) → Spaced bs ts → (rest : List ℕ) × Front ts bs rest × (list_all is_blank rest ≡ true)
spaced_front [] bs s = (bs, refl, s)
spaced_front (t ∷ ts) bs s = let r : (rest : List ℕ) × Front ts s.1 rest × (list_all is_blank rest ≡ true) = spaced_front ts s.1 s.4 in (r.0, (s.0, s.1, s.2, s.3, r.1), r.2)

next_column-tolerates : (gs : List Goal) → Tolerates (next_column ∷ gs)
next_column-tolerates gs = of_blank (λ b. step (next_column ∷ gs) b ≡ Some (next_column ∷ gs)) refl refl refl refl

first_column-tolerates : (gs : List Goal) → Tolerates (first_column ∷ gs)
first_column-tolerates gs = of_blank (λ b. step (first_column ∷ gs) b ≡ Some (first_column ∷ gs)) refl refl refl refl

same_step : (c : ℕ) (gs : List Goal) (other : Option (List Goal)) → cond (eqb c c) (Some gs) other ≡ Some gs
same_step c gs other = ap (λ t. cond t (Some gs) other) (eq-eqb c c refl)

module _ (start : List Goal) where
  -- the state after bytes
  abbrev run : Option (List Goal) → List ℕ → Option (List Goal)
  run o bs = behind (recognizer start) o bs

  -- the first text is a sign that makes these goals of those
  over_first : (goals gs : List Goal) (c : ℕ) → Tolerates goals → step goals c ≡ Some gs → (bs rest : List ℕ) → Front ((c ∷ []) ∷ []) bs rest → run (Some goals) bs ≡ run (Some gs) rest
  over_first goals gs c t e bs rest f = over_sign start goals c t bs f.0 f.1 f.2 f.3 ∙ ap (λ o. run o f.1) e ∙ ap (run (Some gs)) f.4

  over_one : (c : ℕ) (gs : List Goal) → is_blank c ≡ false → (bs rest : List ℕ) → Front ((c ∷ []) ∷ []) bs rest → run (Some (sign c ∷ gs)) bs ≡ run (Some gs) rest
  over_one c gs n bs rest f = over_first (sign c ∷ gs) gs c (sign_allows c gs n) (same_step c gs (if_blank c (sign c ∷ gs))) bs rest f

  over_tights : (cs : List ℕ) (gs : List Goal) (rest : List ℕ) → run (Some (map tight cs ++ gs)) (cs ++ rest) ≡ run (Some gs) rest
  over_tights [] gs rest = refl
  over_tights (c ∷ cs) gs rest = ap (λ o. run o (cs ++ rest)) (same_step c (map tight cs ++ gs) None) ∙ over_tights cs gs rest

  over_word : (c : ℕ) (cs : List ℕ) (gs : List Goal) → is_blank c ≡ false → (bs rest : List ℕ) → Front ((c ∷ cs) ∷ []) bs rest → run (Some (sign c ∷ (map tight cs ++ gs))) bs ≡ run (Some gs) rest
  over_word c cs gs n bs rest f =
      over_one c (map tight cs ++ gs) n bs (cs ++ f.1) (f.0, cs ++ f.1, f.2 ∙ sym (glued f.0 cs f.1 c), f.3, refl) ∙ over_tights cs gs f.1 ∙ ap (run (Some gs)) f.4

  over_name : (s c : ℕ) (cs : List ℕ) (gs : List Goal) → is_blank s ≡ false → is_blank c ≡ false → (bs rest : List ℕ) → Front (name_texts s (c ∷ cs)) bs rest → run (Some (sign s ∷ sign c ∷ (map tight cs ++ (sign 61 ∷ gs)))) bs ≡ run (Some gs) rest
  over_name s c cs gs n m bs rest f =
      over_one s (sign c ∷ (map tight cs ++ (sign 61 ∷ gs))) n bs f.1 (f.0, f.1, f.2, f.3, refl)
      ∙ over_word c cs (sign 61 ∷ gs) m f.1 f.4.1 (f.4.0, f.4.1, f.4.2, f.4.3, refl)
      ∙ over_one 61 gs refl f.4.1 rest f.4.4

  over_members : (goals gs : List Goal) → Begins goals (next_entry ∷ gs) → Tolerates goals → (n : Numeral) (ns : List Numeral) → list_all is_numeral (n ∷ ns) ≡ true → (bs rest : List ℕ) → Front (n ∷ more_texts ns) bs rest → run (Some goals) bs ≡ run (Some gs) rest
  over_members goals gs g t n [] h bs rest f =
      over_part start goals (next_entry ∷ gs) 125 g t (next-tolerates gs) refl n (and_parts (is_numeral n) true h).0 bs f.0 f.1 f.4.0 f.4.1 f.2 f.3 f.4.2 f.4.3 ∙ ap (run (Some gs)) f.4.4
  over_members goals gs g t n (m ∷ ns) h bs rest f =
      let parts : (is_numeral n ≡ true) × (list_all is_numeral (m ∷ ns) ≡ true) = and_parts (is_numeral n) (list_all is_numeral (m ∷ ns)) h in
      over_part start goals (next_entry ∷ gs) 44 g t (next-tolerates gs) refl n parts.0 bs f.0 f.1 f.4.0 f.4.1 f.2 f.3 f.4.2 f.4.3
      ∙ over_members (number ∷ next_entry ∷ gs) gs (number-begins (next_entry ∷ gs)) (number-tolerates (next_entry ∷ gs)) m ns parts.1 f.4.1 rest f.4.4

  over_entries_of : (ns : List Numeral) (gs : List Goal) → list_all is_numeral ns ≡ true → (bs rest : List ℕ) → Front (first_texts ns) bs rest → run (Some (first_entry ∷ gs)) bs ≡ run (Some gs) rest
  over_entries_of [] gs h bs rest f = over_first (first_entry ∷ gs) gs 125 (first-tolerates gs) refl bs rest f
  over_entries_of (n ∷ ns) gs h bs rest f = over_members (first_entry ∷ gs) gs (first-begins gs) (first-tolerates gs) n ns h bs rest f

  over_vector : (ns : List Numeral) (gs : List Goal) → list_all is_numeral ns ≡ true → (bs rest : List ℕ) → Front (vector_texts ns) bs rest → run (Some (sign 123 ∷ first_entry ∷ gs)) bs ≡ run (Some gs) rest
  over_vector ns gs h bs rest f = over_one 123 (first_entry ∷ gs) refl bs f.1 (f.0, f.1, f.2, f.3, refl) ∙ over_entries_of ns gs h f.1 rest f.4

  over_more : (cs : List (List Numeral)) (gs : List Goal) → list_all (list_all is_numeral) cs ≡ true → (bs rest : List ℕ) → Front (more_columns cs) bs rest → run (Some (next_column ∷ gs)) bs ≡ run (Some gs) rest
  over_more [] gs h bs rest f = over_first (next_column ∷ gs) gs 125 (next_column-tolerates gs) refl bs rest f
  over_more (c ∷ cs) gs h bs rest f =
      let parts : (list_all is_numeral c ≡ true) × (list_all (list_all is_numeral) cs ≡ true) = and_parts (list_all is_numeral c) (list_all (list_all is_numeral) cs) h in
      let s : (mid : List ℕ) × Front (vector_texts c) f.1 mid × Front (more_columns cs) mid rest = front_split (vector_texts c) (more_columns cs) f.1 rest f.4 in
      over_first (next_column ∷ gs) (sign 123 ∷ first_entry ∷ next_column ∷ gs) 44 (next_column-tolerates gs) refl bs f.1 (f.0, f.1, f.2, f.3, refl)
      ∙ over_vector c (next_column ∷ gs) parts.0 f.1 s.0 s.1
      ∙ over_more cs gs parts.1 s.0 rest s.2

  over_columns : (cs : List (List Numeral)) (gs : List Goal) → list_all (list_all is_numeral) cs ≡ true → (bs rest : List ℕ) → Front (first_columns cs) bs rest → run (Some (first_column ∷ gs)) bs ≡ run (Some gs) rest
  over_columns [] gs h bs rest f = over_first (first_column ∷ gs) gs 125 (first_column-tolerates gs) refl bs rest f
  over_columns (c ∷ cs) gs h bs rest f =
      let parts : (list_all is_numeral c ≡ true) × (list_all (list_all is_numeral) cs ≡ true) = and_parts (list_all is_numeral c) (list_all (list_all is_numeral) cs) h in
      let s : (mid : List ℕ) × Front (first_texts c) f.1 mid × Front (more_columns cs) mid rest = front_split (first_texts c) (more_columns cs) f.1 rest f.4 in
      over_first (first_column ∷ gs) (first_entry ∷ next_column ∷ gs) 123 (first_column-tolerates gs) refl bs f.1 (f.0, f.1, f.2, f.3, refl)
      ∙ over_entries_of c (next_column ∷ gs) parts.0 f.1 s.0 s.1
      ∙ over_more cs gs parts.1 s.0 rest s.2

  over_matrix : (cs : List (List Numeral)) (gs : List Goal) → list_all (list_all is_numeral) cs ≡ true → (bs rest : List ℕ) → Front (matrix_texts cs) bs rest → run (Some (sign 123 ∷ first_column ∷ gs)) bs ≡ run (Some gs) rest
  over_matrix cs gs h bs rest f = over_one 123 (first_column ∷ gs) refl bs f.1 (f.0, f.1, f.2, f.3, refl) ∙ over_columns cs gs h f.1 rest f.4

-- each spelling of a tiler is accepted
pub tiler_accepted : (bytes : List ℕ) (w : WrittenTiler) → is_written_tiler w ≡ true → Spaced bytes (tiler_texts w) → accepts (recognizer tiler_goals) bytes ≡ true
tiler_accepted bytes w h sp =
    let outer : ((list_all is_numeral w.origin && list_all (list_all is_numeral) w.paving) ≡ true) × (list_all (list_all is_numeral) w.fitting ≡ true) = and_parts (list_all is_numeral w.origin && list_all (list_all is_numeral) w.paving) (list_all (list_all is_numeral) w.fitting) h in
    let inner : (list_all is_numeral w.origin ≡ true) × (list_all (list_all is_numeral) w.paving ≡ true) = and_parts (list_all is_numeral w.origin) (list_all (list_all is_numeral) w.paving) outer.0 in
    let s : List Goal = tiler_goals in
    let g6 : List Goal = sign 41 ∷ [] in
    let g5 : List Goal = sign 123 ∷ first_column ∷ g6 in
    let g4 : List Goal = sign 44 ∷ (word (codes "fitting") ++ (sign 61 ∷ g5)) in
    let g3 : List Goal = sign 123 ∷ first_column ∷ g4 in
    let g2 : List Goal = sign 44 ∷ (word (codes "paving") ++ (sign 61 ∷ g3)) in
    let g1 : List Goal = sign 123 ∷ first_entry ∷ g2 in
    let t6 : List (List ℕ) = (41 ∷ []) ∷ [] in
    let t5 : List (List ℕ) = matrix_texts w.fitting ++ t6 in
    let t4 : List (List ℕ) = name_texts 44 (codes "fitting") ++ t5 in
    let t3 : List (List ℕ) = matrix_texts w.paving ++ t4 in
    let t2 : List (List ℕ) = name_texts 44 (codes "paving") ++ t3 in
    let t1 : List (List ℕ) = vector_texts w.origin ++ t2 in
    let f : (rest : List ℕ) × Front (tiler_texts w) bytes rest × (list_all is_blank rest ≡ true) = spaced_front (tiler_texts w) bytes sp in
    let f1 : (mid : List ℕ) × Front (name_texts 40 (codes "origin")) bytes mid × Front t1 mid f.0 = front_split (name_texts 40 (codes "origin")) t1 bytes f.0 f.1 in
    let f2 : (mid : List ℕ) × Front (vector_texts w.origin) f1.0 mid × Front t2 mid f.0 = front_split (vector_texts w.origin) t2 f1.0 f.0 f1.2 in
    let f3 : (mid : List ℕ) × Front (name_texts 44 (codes "paving")) f2.0 mid × Front t3 mid f.0 = front_split (name_texts 44 (codes "paving")) t3 f2.0 f.0 f2.2 in
    let f4 : (mid : List ℕ) × Front (matrix_texts w.paving) f3.0 mid × Front t4 mid f.0 = front_split (matrix_texts w.paving) t4 f3.0 f.0 f3.2 in
    let f5 : (mid : List ℕ) × Front (name_texts 44 (codes "fitting")) f4.0 mid × Front t5 mid f.0 = front_split (name_texts 44 (codes "fitting")) t5 f4.0 f.0 f4.2 in
    let f6 : (mid : List ℕ) × Front (matrix_texts w.fitting) f5.0 mid × Front t6 mid f.0 = front_split (matrix_texts w.fitting) t6 f5.0 f.0 f5.2 in
    ap (ends (recognizer s))
    (over_name s 40 111 (codes "rigin") g1 refl refl bytes f1.0 f1.1
    ∙ over_vector s w.origin g2 inner.0 f1.0 f2.0 f2.1
    ∙ over_name s 44 112 (codes "aving") g3 refl refl f2.0 f3.0 f3.1
    ∙ over_matrix s w.paving g4 inner.1 f3.0 f4.0 f4.1
    ∙ over_name s 44 102 (codes "itting") g5 refl refl f4.0 f5.0 f5.1
    ∙ over_matrix s w.fitting g6 outer.1 f5.0 f6.0 f6.1
    ∙ over_one s 41 [] refl f6.0 f.0 f6.2
    ∙ over_blanks s [] end-tolerates f.0 f.2)
