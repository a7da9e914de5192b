-- What the recognizer accepts is a spelling.
use Rattle.std.proofs.Common.{◌≡◌, ℕ, zero, suc, ◌+◌, ◌<◌, ◌≤◌, ◌⊎◌, inl, inr, List, [], ◌∷◌, ◌++◌, length, Bool, true, false, cond, ◌&&◌, eqb, leb, Option, Some, None, refl, sym, ◌∙◌, ap, subst, arith}
use Rattle.std.proofs.lemmas.Bool.{eqb-true, false≢true, ne_eqb, leb-true, le-leb, and_parts}
use Rattle.std.specs.List.{list_all}
use Rattle.aol_shape.specs.Texts.{is_blank, is_digit, are_digits, is_numeral}
use Rattle.aol_shape.specs.Machine.{behind, ends, accepts}
use Rattle.aol_vsl.specs.Text.{Numeral}
use Rattle.aol_vsl.specs.Reading.{Goal, sign, tight, number, digit, digits, first_entry, next_entry, first_column, next_column, step, recognizer, begun, if_blank, vector_goals}
use Rattle.aol_vsl.proofs.Spaced.{Front, Spaced, front_front, front_end, front_length, blank_front, front_here, more_texts, first_texts, vector_texts}

-- by the two values of a test
pub by_test : (P : Type 0) (b : Bool) → (b ≡ true → P) → (b ≡ false → P) → P
by_test P true f g = f refl
by_test P false f g = g refl

-- the parts of a numeral's test
pub are_digits_by : (ds : List ℕ) → 1 ≤ length ds → length ds ≤ 19 → list_all is_digit ds ≡ true → are_digits ds ≡ true
are_digits_by ds h k d = ap (λ t. t && leb (length ds) 19 && list_all is_digit ds) (le-leb 1 (length ds) h) ∙ ap (λ t. t && list_all is_digit ds) (le-leb (length ds) 19 k) ∙ d

pub digit_is_no_minus : (b : ℕ) → is_digit b ≡ true → eqb b 45 ≡ false
digit_is_no_minus b h = ne_eqb b 45 (λ e. absurd (omega (arith, e, leb-true 48 b (and_parts (leb 48 b) (leb b 57) h).0)))

pub numeral_by_digit : (b : ℕ) (ds : List ℕ) → is_digit b ≡ true → list_all is_digit ds ≡ true → length ds ≤ 18 → is_numeral (b ∷ ds) ≡ true
numeral_by_digit b ds h d k = ap (λ t. are_digits (cond t ds (b ∷ ds))) (digit_is_no_minus b h) ∙ are_digits_by (b ∷ ds) (omega arith) (omega (arith, k)) (ap (λ t. t && list_all is_digit ds) h ∙ d)

module _ (start : List Goal) where
  -- the bytes lead to an end
  abbrev pub Ends : Option (List Goal) → List ℕ → Type 0
  Ends o bs = ends (recognizer start) (behind (recognizer start) o bs) ≡ true

  pub none_ends : (bs : List ℕ) → Ends None bs → ⊥
  none_ends bs h = false≢true h

  pub if_true : (t : Bool) (x y : Option (List Goal)) (bs : List ℕ) → t ≡ true → Ends (cond t x y) bs → Ends x bs
  if_true t x y bs e h = subst (λ b. Ends (cond b x y) bs) e h

  pub if_false : (t : Bool) (x y : Option (List Goal)) (bs : List ℕ) → t ≡ false → Ends (cond t x y) bs → Ends y bs
  if_false t x y bs e h = subst (λ b. Ends (cond b x y) bs) e h

  pub blank_only : (b : ℕ) (gs : List Goal) (bs : List ℕ) → Ends (if_blank b gs) bs → (is_blank b ≡ true) × Ends (Some gs) bs
  blank_only b gs bs h = by_test _ (is_blank b) (λ e. (e, if_true (is_blank b) (Some gs) None bs e h)) (λ e. absurd (none_ends bs (if_false (is_blank b) (Some gs) None bs e h)))

  -- a text and what meets the goals after it
  abbrev pub Met : List Goal → List ℕ → List (List ℕ) → Type 0
  Met gs bs ts = (rest : List ℕ) × Front ts bs rest × Ends (Some gs) rest

  pub met_blank : (gs : List Goal) (t : List ℕ) (ts : List (List ℕ)) (b : ℕ) (bs : List ℕ) → is_blank b ≡ true → Met gs bs (t ∷ ts) → Met gs (b ∷ bs) (t ∷ ts)
  met_blank gs t ts b bs h m = (m.0, blank_front t ts b bs m.0 h m.1, m.2)

  pub here : (gs : List Goal) (b c : ℕ) (bs : List ℕ) → eqb b c ≡ true → Ends (Some gs) bs → Met gs (b ∷ bs) ((c ∷ []) ∷ [])
  here gs b c bs e h = (bs, front_here (c ∷ []) (b ∷ bs) bs (ap (λ x. x ∷ bs) (eqb-true b c e)), h)

  pub sound_sign : (c : ℕ) (gs : List Goal) (bs : List ℕ) → Ends (Some (sign c ∷ gs)) bs → Met gs bs ((c ∷ []) ∷ [])
  sound_sign c gs [] h = absurd (false≢true h)
  sound_sign c gs (b ∷ bs) h = by_test _ (eqb b c)
      (λ e. here gs b c bs e (if_true (eqb b c) (Some gs) (if_blank b (sign c ∷ gs)) bs e h))
      (λ e. let k : (is_blank b ≡ true) × Ends (Some (sign c ∷ gs)) bs = blank_only b (sign c ∷ gs) bs (if_false (eqb b c) (Some gs) (if_blank b (sign c ∷ gs)) bs e h) in
      met_blank gs (c ∷ []) [] b bs k.0 (sound_sign c gs bs k.1))

  -- digits at once
  abbrev Run : List Goal → List ℕ → ℕ → Type 0
  Run gs bs most = (ds : List ℕ) × (rest : List ℕ) × (bs ≡ ds ++ rest) × (list_all is_digit ds ≡ true) × (length ds ≤ most) × Ends (Some gs) rest

  sound_digits : (n : ℕ) (gs : List Goal) (bs : List ℕ) → Ends (Some (digits n ∷ gs)) bs → Run gs bs n
  sound_digits n gs [] h = absurd (false≢true h)
  sound_digits zero gs (b ∷ bs) h = ([], b ∷ bs, refl, refl, omega arith, h)
  sound_digits (suc n) gs (b ∷ bs) h = by_test _ (is_digit b)
      (λ e. let r : Run gs bs n = sound_digits n gs bs (if_true (is_digit b) (Some (digits n ∷ gs)) (step gs b) bs e h) in
      (b ∷ r.0, r.1, ap (λ x. b ∷ x) r.2, ap (λ t. t && list_all is_digit r.0) e ∙ r.3, omega (arith, r.4), r.5))
      (λ e. ([], b ∷ bs, refl, refl, omega arith, if_false (is_digit b) (Some (digits n ∷ gs)) (step gs b) bs e h))

  -- a numeral at once
  abbrev Numbered : List Goal → List ℕ → Type 0
  Numbered gs bs = (n : Numeral) × (rest : List ℕ) × (bs ≡ n ++ rest) × (is_numeral n ≡ true) × Ends (Some gs) rest

  by_digit : (b : ℕ) (gs : List Goal) (bs : List ℕ) → is_digit b ≡ true → Ends (Some (digits 18 ∷ gs)) bs → Numbered gs (b ∷ bs)
  by_digit b gs bs e h = let r : Run gs bs 18 = sound_digits 18 gs bs h in (b ∷ r.0, r.1, ap (λ x. b ∷ x) r.2, numeral_by_digit b r.0 e r.3 r.4, r.5)

  by_minus : (gs : List Goal) (bs : List ℕ) → Ends (Some (digit ∷ gs)) bs → Numbered gs (45 ∷ bs)
  by_minus gs [] h = absurd (false≢true h)
  by_minus gs (b ∷ bs) h = by_test _ (is_digit b)
      (λ e. let r : Run gs bs 18 = sound_digits 18 gs bs (if_true (is_digit b) (Some (digits 18 ∷ gs)) None bs e h) in
      (45 ∷ b ∷ r.0, r.1, ap (λ x. 45 ∷ b ∷ x) r.2, are_digits_by (b ∷ r.0) (omega arith) (omega (arith, r.4)) (ap (λ t. t && list_all is_digit r.0) e ∙ r.3), r.5))
      (λ e. absurd (none_ends bs (if_false (is_digit b) (Some (digits 18 ∷ gs)) None bs e h)))

  sound_begun : (b : ℕ) (gs : List Goal) (other : Option (List Goal)) (bs : List ℕ) → Ends (begun b gs other) bs → Numbered gs (b ∷ bs) ⊎ Ends other bs
  sound_begun b gs other bs h = by_test _ (is_digit b)
      (λ e. inl (by_digit b gs bs e (if_true (is_digit b) (Some (digits 18 ∷ gs)) (cond (eqb b 45) (Some (digit ∷ gs)) other) bs e h)))
      (λ e. let h' : Ends (cond (eqb b 45) (Some (digit ∷ gs)) other) bs = if_false (is_digit b) (Some (digits 18 ∷ gs)) (cond (eqb b 45) (Some (digit ∷ gs)) other) bs e h in
      by_test _ (eqb b 45)
      (λ f. inl (subst (λ c. Numbered gs (c ∷ bs)) (sym (eqb-true b 45 f)) (by_minus gs bs (if_true (eqb b 45) (Some (digit ∷ gs)) other bs f h'))))
      (λ f. inr (if_false (eqb b 45) (Some (digit ∷ gs)) other bs f h')))

  -- a numeral after blanks
  abbrev Spelled : List Goal → List ℕ → Type 0
  Spelled gs bs = (n : Numeral) × (is_numeral n ≡ true) × Met gs bs (n ∷ [])

  spelled : (gs : List Goal) (bs : List ℕ) → Numbered gs bs → Spelled gs bs
  spelled gs bs n = (n.0, n.3, (n.1, front_here n.0 bs n.1 n.2, n.4))

  sound_number : (gs : List Goal) (bs : List ℕ) → Ends (Some (number ∷ gs)) bs → Spelled gs bs
  sound_number gs [] h = absurd (false≢true h)
  sound_number gs (b ∷ bs) h = elim (sound_begun b gs (if_blank b (number ∷ gs)) bs h) [
    | inl n ↦ spelled gs (b ∷ bs) n
    | inr k ↦ let p : (is_blank b ≡ true) × Ends (Some (number ∷ gs)) bs = blank_only b (number ∷ gs) bs k in
        let s : Spelled gs bs = sound_number gs bs p.1 in (s.0, s.1, met_blank gs s.0 [] b bs p.0 s.2)
  ]

  -- entries
  abbrev pub Listed : List Goal → List ℕ → (List Numeral → List (List ℕ)) → Type 0
  Listed gs bs as_texts = (ns : List Numeral) × (list_all is_numeral ns ≡ true) × Met gs bs (as_texts ns)

  more_here : (gs : List Goal) (bs : List ℕ) (s : Spelled (next_entry ∷ gs) bs) → Listed gs s.2.0 more_texts → (n : Numeral) × (ns : List Numeral) × (list_all is_numeral (n ∷ ns) ≡ true) × Met gs bs (n ∷ more_texts ns)
  more_here gs bs s l = (s.0, l.0, ap (λ t. t && list_all is_numeral l.0) s.1 ∙ l.1, (l.2.0, front_front (s.0 ∷ []) (more_texts l.0) bs s.2.0 l.2.0 s.2.1 l.2.1, l.2.2))

  more_blank : (gs : List Goal) (b : ℕ) (bs : List ℕ) (ns : List Numeral) → is_blank b ≡ true → Met gs bs (more_texts ns) → Met gs (b ∷ bs) (more_texts ns)
  more_blank gs b bs [] h m = met_blank gs (125 ∷ []) [] b bs h m
  more_blank gs b bs (n ∷ ns) h m = met_blank gs (44 ∷ []) (n ∷ more_texts ns) b bs h m

  first_blank : (gs : List Goal) (b : ℕ) (bs : List ℕ) (ns : List Numeral) → is_blank b ≡ true → Met gs bs (first_texts ns) → Met gs (b ∷ bs) (first_texts ns)
  first_blank gs b bs [] h m = met_blank gs (125 ∷ []) [] b bs h m
  first_blank gs b bs (n ∷ ns) h m = met_blank gs n (more_texts ns) b bs h m

  sound_more : (fuel : ℕ) (gs : List Goal) (bs : List ℕ) → length bs ≤ fuel → Ends (Some (next_entry ∷ gs)) bs → Listed gs bs more_texts
  sound_more fuel gs [] f h = absurd (false≢true h)
  sound_more zero gs (b ∷ bs) f h = absurd (omega (arith, f))
  sound_more (suc fuel) gs (b ∷ bs) f h =
      let others : Option (List Goal) = cond (eqb b 44) (Some (number ∷ next_entry ∷ gs)) (if_blank b (next_entry ∷ gs)) in
      by_test _ (eqb b 125)
      (λ e. ([], refl, here gs b 125 bs e (if_true (eqb b 125) (Some gs) others bs e h)))
      (λ e. let h' : Ends others bs = if_false (eqb b 125) (Some gs) others bs e h in
      by_test _ (eqb b 44)
      (λ c. let s : Spelled (next_entry ∷ gs) bs = sound_number (next_entry ∷ gs) bs (if_true (eqb b 44) (Some (number ∷ next_entry ∷ gs)) (if_blank b (next_entry ∷ gs)) bs c h') in
      let l : Listed gs s.2.0 more_texts = sound_more fuel gs s.2.0 (omega (arith, f, front_length (s.0 ∷ []) bs s.2.0 s.2.1)) s.2.2 in
      let p : (n : Numeral) × (ns : List Numeral) × (list_all is_numeral (n ∷ ns) ≡ true) × Met gs bs (n ∷ more_texts ns) = more_here gs bs s l in
      (p.0 ∷ p.1, p.2, (p.3.0, ([], bs, ap (λ x. x ∷ bs) (eqb-true b 44 c), refl, p.3.1), p.3.2)))
      (λ c. let k : (is_blank b ≡ true) × Ends (Some (next_entry ∷ gs)) bs = blank_only b (next_entry ∷ gs) bs (if_false (eqb b 44) (Some (number ∷ next_entry ∷ gs)) (if_blank b (next_entry ∷ gs)) bs c h') in
      let l : Listed gs bs more_texts = sound_more fuel gs bs (omega (arith, f)) k.1 in
      (l.0, l.1, more_blank gs b bs l.0 k.0 l.2)))

  pub sound_first : (gs : List Goal) (bs : List ℕ) → Ends (Some (first_entry ∷ gs)) bs → Listed gs bs first_texts
  sound_first gs [] h = absurd (false≢true h)
  sound_first gs (b ∷ bs) h =
      let others : Option (List Goal) = begun b (next_entry ∷ gs) (if_blank b (first_entry ∷ gs)) in
      by_test _ (eqb b 125)
      (λ e. ([], refl, here gs b 125 bs e (if_true (eqb b 125) (Some gs) others bs e h)))
      (λ e. elim (sound_begun b (next_entry ∷ gs) (if_blank b (first_entry ∷ gs)) bs (if_false (eqb b 125) (Some gs) others bs e h)) [
        | inl n ↦ let s : Spelled (next_entry ∷ gs) (b ∷ bs) = spelled (next_entry ∷ gs) (b ∷ bs) n in
            let p : (n : Numeral) × (ns : List Numeral) × (list_all is_numeral (n ∷ ns) ≡ true) × Met gs (b ∷ bs) (n ∷ more_texts ns) = more_here gs (b ∷ bs) s (sound_more (length s.2.0) gs s.2.0 (omega arith) s.2.2) in
            (p.0 ∷ p.1, p.2, p.3)
        | inr k ↦ let p : (is_blank b ≡ true) × Ends (Some (first_entry ∷ gs)) bs = blank_only b (first_entry ∷ gs) bs k in
            let l : Listed gs bs first_texts = sound_first gs bs p.1 in
            (l.0, l.1, first_blank gs b bs l.0 p.0 l.2)
      ])

  -- a vector
  pub sound_vector : (gs : List Goal) (bs : List ℕ) → Ends (Some (sign 123 ∷ first_entry ∷ gs)) bs → Listed gs bs vector_texts
  sound_vector gs bs h =
      let m : Met (first_entry ∷ gs) bs ((123 ∷ []) ∷ []) = sound_sign 123 (first_entry ∷ gs) bs h in
      let l : Listed gs m.0 first_texts = sound_first gs m.0 m.2 in
      (l.0, l.1, (l.2.0, front_front ((123 ∷ []) ∷ []) (first_texts l.0) bs m.0 l.2.0 m.1 l.2.1, l.2.2))

  -- blanks at the end
  pub sound_end : (bs : List ℕ) → Ends (Some []) bs → list_all is_blank bs ≡ true
  sound_end [] h = refl
  sound_end (b ∷ bs) h = let k : (is_blank b ≡ true) × Ends (Some []) bs = blank_only b [] bs h in ap (λ t. t && list_all is_blank bs) k.0 ∙ sound_end bs k.1

-- what is accepted as a vector spells numerals
pub vector_sound : (bytes : List ℕ) → accepts (recognizer vector_goals) bytes ≡ true → (ns : List Numeral) × (list_all is_numeral ns ≡ true) × Spaced bytes (vector_texts ns)
vector_sound bytes h =
    let l : Listed vector_goals [] bytes vector_texts = sound_vector vector_goals [] bytes h in
    (l.0, l.1, front_end (vector_texts l.0) bytes l.2.0 l.2.1 (sound_end vector_goals l.2.0 l.2.2))
