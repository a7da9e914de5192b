-- What the recognizer accepts as a matrix or a tiler is a spelling.
use Rattle.std.proofs.Common.{◌≡◌, ℕ, zero, suc, ◌+◌, ◌<◌, ◌≤◌, List, [], ◌∷◌, ◌++◌, length, map, Bool, true, false, cond, ◌&&◌, eqb, Option, Some, None, refl, sym, ◌∙◌, ap, subst, arith, append_assoc, codes}
use Rattle.std.proofs.lemmas.Bool.{eqb-true, false≢true, and_from}
use Rattle.std.specs.List.{list_all}
use Rattle.aol_shape.specs.Texts.{is_blank, is_numeral}
use Rattle.aol_shape.specs.Machine.{accepts}
use Rattle.aol_vsl.specs.Text.{Numeral, WrittenTiler, is_written_tiler}
use Rattle.aol_vsl.specs.Reading.{Goal, sign, tight, first_entry, first_column, next_column, step, recognizer, if_blank, vector_goals, matrix_goals, tiler_goals, word}
use Rattle.aol_vsl.proofs.Spaced.{Front, Spaced, front_front, front_end, front_length, front_here, vector_texts, first_texts, more_columns, first_columns, matrix_texts, name_texts, tiler_texts}
use Rattle.aol_vsl.proofs.Sound.{by_test, Ends, Met, Listed, if_true, if_false, blank_only, met_blank, here, none_ends, sound_sign, sound_first, sound_vector, sound_end}

pub glued : (gap cs rest : List ℕ) (c : ℕ) → (gap ++ c ∷ []) ++ (cs ++ rest) ≡ (gap ++ c ∷ cs) ++ rest
glued gap cs rest c = simp append_assoc

module _ (start : List Goal) where
  -- letters at once
  sound_tights : (cs : List ℕ) (gs : List Goal) (bs : List ℕ) → Ends start (Some (map tight cs ++ gs)) bs → (rest : List ℕ) × (bs ≡ cs ++ rest) × Ends start (Some gs) rest
  sound_tights [] gs bs h = (bs, refl, h)
  sound_tights (c ∷ cs) gs [] h = absurd (false≢true h)
  sound_tights (c ∷ cs) gs (b ∷ bs) h = by_test _ (eqb b c)
      (λ e. let r : (rest : List ℕ) × (bs ≡ cs ++ rest) × Ends start (Some gs) rest = sound_tights cs gs bs (if_true start (eqb b c) (Some (map tight cs ++ gs)) None bs e h) in
      (r.0, ap (λ x. x ∷ bs) (eqb-true b c e) ∙ ap (λ xs. c ∷ xs) r.1, r.2))
      (λ e. absurd (none_ends start bs (if_false start (eqb b c) (Some (map tight cs ++ gs)) None bs e h)))

  sound_word : (c : ℕ) (cs : List ℕ) (gs : List Goal) (bs : List ℕ) → Ends start (Some (sign c ∷ (map tight cs ++ gs))) bs → Met start gs bs ((c ∷ cs) ∷ [])
  sound_word c cs gs bs h =
      let m : Met start (map tight cs ++ gs) bs ((c ∷ []) ∷ []) = sound_sign start c (map tight cs ++ gs) bs h in
      let r : (rest : List ℕ) × (m.0 ≡ cs ++ rest) × Ends start (Some gs) rest = sound_tights cs gs m.0 m.2 in
      (r.0, (m.1.0, r.0, m.1.2 ∙ ap (λ xs. (m.1.0 ++ c ∷ []) ++ xs) (m.1.4 ∙ r.1) ∙ glued m.1.0 cs r.0 c, m.1.3, refl), r.2)

  -- a part and then others
  met_then : (hs gs : List Goal) (bs : List ℕ) (ts us : List (List ℕ)) (m : Met start hs bs ts) → Met start gs m.0 us → Met start gs bs (ts ++ us)
  met_then hs gs bs ts us m n = (n.0, front_front ts us bs m.0 n.0 m.1 n.1, n.2)

  -- a sign, a name and `=`
  sound_name : (s c : ℕ) (cs : List ℕ) (gs : List Goal) (bs : List ℕ) → Ends start (Some (sign s ∷ sign c ∷ (map tight cs ++ (sign 61 ∷ gs)))) bs → Met start gs bs ((s ∷ []) ∷ (c ∷ cs) ∷ (61 ∷ []) ∷ [])
  sound_name s c cs gs bs h =
      let m : Met start (sign c ∷ (map tight cs ++ (sign 61 ∷ gs))) bs ((s ∷ []) ∷ []) = sound_sign start s (sign c ∷ (map tight cs ++ (sign 61 ∷ gs))) bs h in
      let n : Met start (sign 61 ∷ gs) m.0 ((c ∷ cs) ∷ []) = sound_word c cs (sign 61 ∷ gs) m.0 m.2 in
      let o : Met start gs n.0 ((61 ∷ []) ∷ []) = sound_sign start 61 gs n.0 n.2 in
      met_then (sign c ∷ (map tight cs ++ (sign 61 ∷ gs))) gs bs ((s ∷ []) ∷ []) ((c ∷ cs) ∷ (61 ∷ []) ∷ []) m (met_then (sign 61 ∷ gs) gs m.0 ((c ∷ cs) ∷ []) ((61 ∷ []) ∷ []) n o)

  -- columns
  abbrev Columned : List Goal → List ℕ → (List (List Numeral) → List (List ℕ)) → Type 0
  Columned gs bs as_texts = (cs : List (List Numeral)) × (list_all (list_all is_numeral) cs ≡ true) × Met start gs bs (as_texts cs)

  more_blank : (gs : List Goal) (b : ℕ) (bs : List ℕ) (cs : List (List Numeral)) → is_blank b ≡ true → Met start gs bs (more_columns cs) → Met start gs (b ∷ bs) (more_columns cs)
  more_blank gs b bs [] h m = met_blank start gs (125 ∷ []) [] b bs h m
  more_blank gs b bs (c ∷ cs) h m = met_blank start gs (44 ∷ []) (vector_texts c ++ more_columns cs) b bs h m

  first_blank : (gs : List Goal) (b : ℕ) (bs : List ℕ) (cs : List (List Numeral)) → is_blank b ≡ true → Met start gs bs (first_columns cs) → Met start gs (b ∷ bs) (first_columns cs)
  first_blank gs b bs [] h m = met_blank start gs (125 ∷ []) [] b bs h m
  first_blank gs b bs (c ∷ cs) h m = met_blank start gs (123 ∷ []) (first_texts c ++ more_columns cs) b bs h m

  sound_more_columns : (fuel : ℕ) (gs : List Goal) (bs : List ℕ) → length bs ≤ fuel → Ends start (Some (next_column ∷ gs)) bs → Columned gs bs more_columns
  sound_more_columns fuel gs [] f h = absurd (false≢true h)
  sound_more_columns zero gs (b ∷ bs) f h = absurd (omega (arith, f))
  sound_more_columns (suc fuel) gs (b ∷ bs) f h =
      let inside : List Goal = sign 123 ∷ first_entry ∷ next_column ∷ gs in
      let others : Option (List Goal) = cond (eqb b 44) (Some inside) (if_blank b (next_column ∷ gs)) in
      by_test _ (eqb b 125)
      (λ e. ([], refl, here start gs b 125 bs e (if_true start (eqb b 125) (Some gs) others bs e h)))
      (λ e. let h' : Ends start others bs = if_false start (eqb b 125) (Some gs) others bs e h in
      by_test _ (eqb b 44)
      (λ k. let v : Listed start (next_column ∷ gs) bs vector_texts = sound_vector start (next_column ∷ gs) bs (if_true start (eqb b 44) (Some inside) (if_blank b (next_column ∷ gs)) bs k h') in
      let l : Columned gs v.2.0 more_columns = sound_more_columns fuel gs v.2.0 (omega (arith, f, front_length (vector_texts v.0) bs v.2.0 v.2.1)) v.2.2 in (
        v.0 ∷ l.0,
        and_from (list_all is_numeral v.0) (list_all (list_all is_numeral) l.0) v.1 l.1,
        (l.2.0, ([], bs, ap (λ x. x ∷ bs) (eqb-true b 44 k), refl, front_front (vector_texts v.0) (more_columns l.0) bs v.2.0 l.2.0 v.2.1 l.2.1), l.2.2),
      ))
      (λ k. let p : (is_blank b ≡ true) × Ends start (Some (next_column ∷ gs)) bs = blank_only start b (next_column ∷ gs) bs (if_false start (eqb b 44) (Some inside) (if_blank b (next_column ∷ gs)) bs k h') in
      let l : Columned gs bs more_columns = sound_more_columns fuel gs bs (omega (arith, f)) p.1 in
      (l.0, l.1, more_blank gs b bs l.0 p.0 l.2)))

  sound_first_columns : (gs : List Goal) (bs : List ℕ) → Ends start (Some (first_column ∷ gs)) bs → Columned gs bs first_columns
  sound_first_columns gs [] h = absurd (false≢true h)
  sound_first_columns gs (b ∷ bs) h =
      let inside : List Goal = first_entry ∷ next_column ∷ gs in
      let others : Option (List Goal) = cond (eqb b 123) (Some inside) (if_blank b (first_column ∷ gs)) in
      by_test _ (eqb b 125)
      (λ e. ([], refl, here start gs b 125 bs e (if_true start (eqb b 125) (Some gs) others bs e h)))
      (λ e. let h' : Ends start others bs = if_false start (eqb b 125) (Some gs) others bs e h in
      by_test _ (eqb b 123)
      (λ k. let v : Listed start (next_column ∷ gs) bs first_texts = sound_first start (next_column ∷ gs) bs (if_true start (eqb b 123) (Some inside) (if_blank b (first_column ∷ gs)) bs k h') in
      let l : Columned gs v.2.0 more_columns = sound_more_columns (length v.2.0) gs v.2.0 (omega arith) v.2.2 in (
        v.0 ∷ l.0,
        and_from (list_all is_numeral v.0) (list_all (list_all is_numeral) l.0) v.1 l.1,
        (l.2.0, ([], bs, ap (λ x. x ∷ bs) (eqb-true b 123 k), refl, front_front (first_texts v.0) (more_columns l.0) bs v.2.0 l.2.0 v.2.1 l.2.1), l.2.2),
      ))
      (λ k. let p : (is_blank b ≡ true) × Ends start (Some (first_column ∷ gs)) bs = blank_only start b (first_column ∷ gs) bs (if_false start (eqb b 123) (Some inside) (if_blank b (first_column ∷ gs)) bs k h') in
      let l : Columned gs bs first_columns = sound_first_columns gs bs p.1 in
      (l.0, l.1, first_blank gs b bs l.0 p.0 l.2)))

  sound_matrix : (gs : List Goal) (bs : List ℕ) → Ends start (Some (sign 123 ∷ first_column ∷ gs)) bs → Columned gs bs matrix_texts
  sound_matrix gs bs h =
      let m : Met start (first_column ∷ gs) bs ((123 ∷ []) ∷ []) = sound_sign start 123 (first_column ∷ gs) bs h in
      let l : Columned gs m.0 first_columns = sound_first_columns gs m.0 m.2 in
      (l.0, l.1, met_then (first_column ∷ gs) gs bs ((123 ∷ []) ∷ []) (first_columns l.0) m l.2)

-- what is accepted as a tiler spells one
pub tiler_sound : (bytes : List ℕ) → accepts (recognizer tiler_goals) bytes ≡ true → (w : WrittenTiler) × (is_written_tiler w ≡ true) × Spaced bytes (tiler_texts w)
tiler_sound bytes h =
    let s : List Goal = tiler_goals in
    let g6 : List Goal = sign 41 ∷ [] in
    let g5 : List Goal = sign 123 ∷ first_column ∷ g6 in
    let g4 : List Goal = sign 44 ∷ (word (codes "fitting") ++ (sign 61 ∷ g5)) in
    let g3 : List Goal = sign 123 ∷ first_column ∷ g4 in
    let g2 : List Goal = sign 44 ∷ (word (codes "paving") ++ (sign 61 ∷ g3)) in
    let g1 : List Goal = sign 123 ∷ first_entry ∷ g2 in
    let n1 : Met s g1 bytes (name_texts 40 (codes "origin")) = sound_name s 40 111 (codes "rigin") g1 bytes h in
    let v : Listed s g2 n1.0 vector_texts = sound_vector s g2 n1.0 n1.2 in
    let n2 : Met s g3 v.2.0 (name_texts 44 (codes "paving")) = sound_name s 44 112 (codes "aving") g3 v.2.0 v.2.2 in
    let p : Columned s g4 n2.0 matrix_texts = sound_matrix s g4 n2.0 n2.2 in
    let n3 : Met s g5 p.2.0 (name_texts 44 (codes "fitting")) = sound_name s 44 102 (codes "itting") g5 p.2.0 p.2.2 in
    let f : Columned s g6 n3.0 matrix_texts = sound_matrix s g6 n3.0 n3.2 in
    let c : Met s [] f.2.0 ((41 ∷ []) ∷ []) = sound_sign s 41 [] f.2.0 f.2.2 in
    let t5 : List (List ℕ) = matrix_texts f.0 ++ (41 ∷ []) ∷ [] in
    let t4 : List (List ℕ) = name_texts 44 (codes "fitting") ++ t5 in
    let t3 : List (List ℕ) = matrix_texts p.0 ++ t4 in
    let t2 : List (List ℕ) = name_texts 44 (codes "paving") ++ t3 in
    let whole : Met s [] bytes (tiler_texts (record { origin = v.0; paving = p.0; fitting = f.0 })) =
    met_then s g1 [] bytes (name_texts 40 (codes "origin")) (vector_texts v.0 ++ t2) n1
    (met_then s g2 [] n1.0 (vector_texts v.0) t2 v.2
    (met_then s g3 [] v.2.0 (name_texts 44 (codes "paving")) t3 n2
    (met_then s g4 [] n2.0 (matrix_texts p.0) t4 p.2
    (met_then s g5 [] p.2.0 (name_texts 44 (codes "fitting")) t5 n3
    (met_then s g6 [] n3.0 (matrix_texts f.0) ((41 ∷ []) ∷ []) f.2 c))))) in (
      record { origin = v.0; paving = p.0; fitting = f.0 },
      and_from (list_all is_numeral v.0 && list_all (list_all is_numeral) p.0) (list_all (list_all is_numeral) f.0) (and_from (list_all is_numeral v.0) (list_all (list_all is_numeral) p.0) v.1 p.1) f.1,
      front_end (tiler_texts (record { origin = v.0; paving = p.0; fitting = f.0 })) bytes whole.0 whole.1 (sound_end s whole.0 whole.2),
    )
