-- The lexemes of a tiler's text write it.
use Rattle.std.proofs.Common.{◌≡◌, ℕ, zero, suc, ◌+◌, ◌≤◌, List, [], ◌∷◌, ◌++◌, length, take, drop, map, filter, Bool, true, false, cond, ◌&&◌, not, eqb, leb, Option, Some, None, refl, sym, ◌∙◌, ap, subst, arith, append_assoc, codes}
use Rattle.std.proofs.lemmas.Bool.{and_parts, and_from, ne_eqb, leb-true, eqb-true, cases_Bool}
use Rattle.std.proofs.lemmas.List.{take_at, drop_at, length-append}
use Rattle.std.specs.List.{list_all, before_first, after_first, position_or_len, prefix_len}
use Rattle.aol_shape.specs.Lists.{same}
use Rattle.aol_shape.specs.Texts.{is_digit, are_digits, is_numeral}
use Rattle.aol_shape.specs.Grammar.{Lexeme}
use Rattle.aol_vsl.specs.Text.{Numeral, WrittenTiler, is_written_tiler}
use Rattle.aol_vsl.specs.Reading.{columns_with, columns, written_tiler}
use Rattle.aol_vsl.proofs.Accepts.{Magnitude, magnitude_of}
use Rattle.aol_vsl.proofs.Sound.{by_test}
use Rattle.aol_vsl.proofs.Spaced.{more_texts, first_texts, vector_texts, more_columns, first_columns, matrix_texts, name_texts, tiler_texts}

-- ---- a list up to its first element that passes

module _ (p : List ℕ → Bool) where
  abbrev Fails : List (List ℕ) → Type 0
  Fails xs = list_all (λ t. not (p t)) xs ≡ true

  first_at : (xs : List (List ℕ)) (y : List ℕ) (ys : List (List ℕ)) → Fails xs → p y ≡ true → position_or_len p (xs ++ y ∷ ys) ≡ length xs
  first_at [] y ys h e = ap (λ t. cond t (1 + prefix_len (λ x. not (p x)) ys) 0) (ap not e)
  first_at (x ∷ xs) y ys h e =
      let parts : (not (p x) ≡ true) × Fails xs = and_parts (not (p x)) (list_all (λ t. not (p t)) xs) h in
      ap (λ t. cond t (1 + prefix_len (λ x. not (p x)) (xs ++ y ∷ ys)) 0) parts.0 ∙ ap (λ n. 1 + n) (first_at xs y ys parts.1 e) ∙ omega arith

  before_it : (xs : List (List ℕ)) (y : List ℕ) (ys : List (List ℕ)) → Fails xs → p y ≡ true → before_first p (xs ++ y ∷ ys) ≡ xs
  before_it xs y ys h e = ap (λ n. take n (xs ++ y ∷ ys)) (first_at xs y ys h e) ∙ take_at xs (y ∷ ys) (length xs) refl

  after_it : (xs : List (List ℕ)) (y : List ℕ) (ys : List (List ℕ)) → Fails xs → p y ≡ true → after_first p (xs ++ y ∷ ys) ≡ ys
  after_it xs y ys h e =
      ap (λ n. drop (n + 1) (xs ++ y ∷ ys)) (first_at xs y ys h e)
      ∙ ap (drop (length xs + 1)) (sym (append_assoc xs (y ∷ []) ys))
      ∙ drop_at (xs ++ y ∷ []) ys (length xs + 1) (length-append xs (y ∷ []))

  module _ (numeral : (n : Numeral) → is_numeral n ≡ true → p n ≡ false) (close : p (125 ∷ []) ≡ false) (comma : p (44 ∷ []) ≡ false) (opening : p (123 ∷ []) ≡ false) where
    fails_one : (t : List ℕ) (ts : List (List ℕ)) → p t ≡ false → Fails ts → Fails (t ∷ ts)
    fails_one t ts e h = and_from (not (p t)) (list_all (λ t. not (p t)) ts) (ap not e) h

    more_fails : (ns : List Numeral) (us : List (List ℕ)) → list_all is_numeral ns ≡ true → Fails us → Fails (more_texts ns ++ us)
    more_fails [] us h k = fails_one (125 ∷ []) us close k
    more_fails (n ∷ ns) us h k =
        let parts : (is_numeral n ≡ true) × (list_all is_numeral ns ≡ true) = and_parts (is_numeral n) (list_all is_numeral ns) h in
        fails_one (44 ∷ []) (n ∷ (more_texts ns ++ us)) comma (fails_one n (more_texts ns ++ us) (numeral n parts.0) (more_fails ns us parts.1 k))

    vector_fails : (ns : List Numeral) (us : List (List ℕ)) → list_all is_numeral ns ≡ true → Fails us → Fails (vector_texts ns ++ us)
    vector_fails [] us h k = fails_one (123 ∷ []) ((125 ∷ []) ∷ us) opening (fails_one (125 ∷ []) us close k)
    vector_fails (n ∷ ns) us h k =
        let parts : (is_numeral n ≡ true) × (list_all is_numeral ns ≡ true) = and_parts (is_numeral n) (list_all is_numeral ns) h in
        fails_one (123 ∷ []) (n ∷ (more_texts ns ++ us)) opening (fails_one n (more_texts ns ++ us) (numeral n parts.0) (more_fails ns us parts.1 k))

    columns_fail : (cs : List (List Numeral)) (us : List (List ℕ)) → list_all (list_all is_numeral) cs ≡ true → Fails us → Fails (more_columns cs ++ us)
    columns_fail [] us h k = fails_one (125 ∷ []) us close k
    columns_fail (c ∷ cs) us h k =
        let parts : (list_all is_numeral c ≡ true) × (list_all (list_all is_numeral) cs ≡ true) = and_parts (list_all is_numeral c) (list_all (list_all is_numeral) cs) h in
        fails_one (44 ∷ []) ((vector_texts c ++ more_columns cs) ++ us) comma
        (subst Fails (sym (append_assoc (vector_texts c) (more_columns cs) us)) (vector_fails c (more_columns cs ++ us) parts.0 (columns_fail cs us parts.1 k)))

    matrix_fails : (cs : List (List Numeral)) (us : List (List ℕ)) → list_all (list_all is_numeral) cs ≡ true → Fails us → Fails (matrix_texts cs ++ us)
    matrix_fails [] us h k = fails_one (123 ∷ []) ((125 ∷ []) ∷ us) opening (fails_one (125 ∷ []) us close k)
    matrix_fails (c ∷ cs) us h k =
        let parts : (list_all is_numeral c ≡ true) × (list_all (list_all is_numeral) cs ≡ true) = and_parts (list_all is_numeral c) (list_all (list_all is_numeral) cs) h in
        fails_one (123 ∷ []) ((vector_texts c ++ more_columns cs) ++ us) opening
        (subst Fails (sym (append_assoc (vector_texts c) (more_columns cs) us)) (vector_fails c (more_columns cs ++ us) parts.0 (columns_fail cs us parts.1 k)))

-- ---- numerals are no words and no signs

magnitude_low : (ds : List ℕ) (b : ℕ) (bs : List ℕ) → ds ≡ b ∷ bs → Magnitude ds → b ≤ 57
magnitude_low [] b bs e m = cc
magnitude_low (d ∷ ds) b bs e m = let same_head : d ≡ b = cc in omega (arith, same_head, leb-true d 57 (and_parts (leb 48 d) (leb d 57) (and_parts (is_digit d) (list_all is_digit ds) m.each).0).1)

pub numeral_low : (b : ℕ) (bs : List ℕ) → is_numeral (b ∷ bs) ≡ true → b ≤ 57
numeral_low b bs h = by_test _ (eqb b 45)
    (λ e. omega (arith, eqb-true b 45 e))
    (λ e. magnitude_low (b ∷ bs) b bs refl (magnitude_of (b ∷ bs) (ap (λ t. are_digits (cond t bs (b ∷ bs))) (sym e) ∙ h)))

-- a text that begins with a byte above the digits is no numeral
differs : (c : ℕ) (cs : List ℕ) → 58 ≤ c → (n : Numeral) → is_numeral n ≡ true → same n (c ∷ cs) ≡ false
differs c cs k [] h = refl
differs c cs k (b ∷ bs) h = ap (λ t. t && same bs cs) (ne_eqb b c (λ e. absurd (omega (arith, numeral_low b bs h, k, e))))

-- ---- the numerals of a vector, and the columns of a matrix

filter_more : (ns : List Numeral) (us : List (List ℕ)) → list_all is_numeral ns ≡ true → filter is_numeral us ≡ [] → filter is_numeral (more_texts ns ++ us) ≡ ns
filter_more [] us h k = k
filter_more (n ∷ ns) us h k =
    let parts : (is_numeral n ≡ true) × (list_all is_numeral ns ≡ true) = and_parts (is_numeral n) (list_all is_numeral ns) h in
    ap (λ t. cond t (n ∷ filter is_numeral (more_texts ns ++ us)) (filter is_numeral (more_texts ns ++ us))) parts.0 ∙ ap (λ ms. n ∷ ms) (filter_more ns us parts.1 k)

filter_vector : (ns : List Numeral) (us : List (List ℕ)) → list_all is_numeral ns ≡ true → filter is_numeral us ≡ [] → filter is_numeral (vector_texts ns ++ us) ≡ ns
filter_vector [] us h k = k
filter_vector (n ∷ ns) us h k = filter_more (n ∷ ns) us h k

nil_right : (ns : List Numeral) → ns ++ [] ≡ ns
nil_right [] = refl
nil_right (n ∷ ns) = ap (λ ms. n ∷ ms) (nil_right ns)

one_entry : (acc : List Numeral) (n : Numeral) (ts : List (List ℕ)) → is_numeral n ≡ true → columns_with (Some acc) (n ∷ ts) ≡ columns_with (Some (acc ++ n ∷ [])) ts
one_entry acc n ts h =
    ap (λ t. cond t (acc ∷ columns_with None ts) (columns_with (Some (cond (is_numeral n) (acc ++ n ∷ []) acc)) ts)) (differs 125 [] (omega arith) n h)
    ∙ ap (λ t. columns_with (Some (cond t (acc ++ n ∷ []) acc)) ts) h

entries_in : (ns acc : List Numeral) (us : List (List ℕ)) → list_all is_numeral ns ≡ true → columns_with (Some acc) (more_texts ns ++ us) ≡ (acc ++ ns) ∷ columns_with None us
entries_in [] acc us h = ap (λ ms. ms ∷ columns_with None us) (sym (nil_right acc))
entries_in (n ∷ ns) acc us h =
    let parts : (is_numeral n ≡ true) × (list_all is_numeral ns ≡ true) = and_parts (is_numeral n) (list_all is_numeral ns) h in
    one_entry acc n (more_texts ns ++ us) parts.0 ∙ entries_in ns (acc ++ n ∷ []) us parts.1 ∙ ap (λ ms. ms ∷ columns_with None us) (append_assoc acc (n ∷ []) ns)

column_in : (ns : List Numeral) (us : List (List ℕ)) → list_all is_numeral ns ≡ true → columns_with (Some []) (first_texts ns ++ us) ≡ ns ∷ columns_with None us
column_in [] us h = refl
column_in (n ∷ ns) us h =
    let parts : (is_numeral n ≡ true) × (list_all is_numeral ns ≡ true) = and_parts (is_numeral n) (list_all is_numeral ns) h in
    one_entry [] n (more_texts ns ++ us) parts.0 ∙ entries_in ns (n ∷ []) us parts.1

more_in : (cs : List (List Numeral)) (us : List (List ℕ)) → list_all (list_all is_numeral) cs ≡ true → columns_with None us ≡ [] → columns_with None (more_columns cs ++ us) ≡ cs
more_in [] us h k = k
more_in (c ∷ cs) us h k =
    let parts : (list_all is_numeral c ≡ true) × (list_all (list_all is_numeral) cs ≡ true) = and_parts (list_all is_numeral c) (list_all (list_all is_numeral) cs) h in
    ap (columns_with None) (append_assoc (vector_texts c) (more_columns cs) us)
    ∙ column_in c (more_columns cs ++ us) parts.0
    ∙ ap (λ ds. c ∷ ds) (more_in cs us parts.1 k)

columns_in : (cs : List (List Numeral)) (us : List (List ℕ)) → list_all (list_all is_numeral) cs ≡ true → columns_with None us ≡ [] → columns_with None (first_columns cs ++ us) ≡ cs
columns_in [] us h k = k
columns_in (c ∷ cs) us h k =
    let parts : (list_all is_numeral c ≡ true) × (list_all (list_all is_numeral) cs ≡ true) = and_parts (list_all is_numeral c) (list_all (list_all is_numeral) cs) h in
    ap (columns_with None) (append_assoc (vector_texts c) (more_columns cs) us)
    ∙ column_in c (more_columns cs ++ us) parts.0
    ∙ ap (λ ds. c ∷ ds) (more_in cs us parts.1 k)

matrix_in : (cs : List (List Numeral)) (us : List (List ℕ)) → list_all (list_all is_numeral) cs ≡ true → columns_with None us ≡ [] → columns ((61 ∷ []) ∷ (matrix_texts cs ++ us)) ≡ cs
matrix_in cs us h k = ap (columns_with None) (after_it (λ t. same t (123 ∷ [])) ((61 ∷ []) ∷ []) (123 ∷ []) (first_columns cs ++ us) refl refl) ∙ columns_in cs us h k

-- ---- the whole

abbrev is_paving : List ℕ → Bool
is_paving t = same t (codes "paving")

abbrev is_fitting : List ℕ → Bool
is_fitting t = same t (codes "fitting")

module _ (w : WrittenTiler) (h : is_written_tiler w ≡ true) where
  both_is : ((list_all is_numeral w.origin && list_all (list_all is_numeral) w.paving) ≡ true) × (list_all (list_all is_numeral) w.fitting ≡ true)
  both_is = and_parts (list_all is_numeral w.origin && list_all (list_all is_numeral) w.paving) (list_all (list_all is_numeral) w.fitting) h

  first_is : (list_all is_numeral w.origin ≡ true) × (list_all (list_all is_numeral) w.paving ≡ true)
  first_is = and_parts (list_all is_numeral w.origin) (list_all (list_all is_numeral) w.paving) both_is.0

  abbrev comma : List (List ℕ)
  comma = (44 ∷ []) ∷ []

  abbrev equals : List ℕ
  equals = 61 ∷ []

  -- after the word `fitting`
  abbrev last_part : List (List ℕ)
  last_part = equals ∷ (matrix_texts w.fitting ++ (41 ∷ []) ∷ [])

  -- between the words `paving` and `fitting`
  abbrev middle_part : List (List ℕ)
  middle_part = equals ∷ (matrix_texts w.paving ++ comma)

  -- before the word `paving`
  abbrev first_part : List (List ℕ)
  first_part = name_texts 40 (codes "origin") ++ (vector_texts w.origin ++ comma)

  -- before the word `fitting`
  abbrev long_part : List (List ℕ)
  long_part = name_texts 40 (codes "origin") ++ (vector_texts w.origin ++ ((44 ∷ []) ∷ codes "paving" ∷ middle_part))

  at_fitting : middle_part ++ codes "fitting" ∷ last_part ≡ equals ∷ (matrix_texts w.paving ++ ((44 ∷ []) ∷ codes "fitting" ∷ last_part))
  at_fitting = ap (λ ts. equals ∷ ts) (append_assoc (matrix_texts w.paving) comma (codes "fitting" ∷ last_part))

  at_paving : tiler_texts w ≡ first_part ++ codes "paving" ∷ (middle_part ++ codes "fitting" ∷ last_part)
  at_paving =
      ap (λ ts. name_texts 40 (codes "origin") ++ (vector_texts w.origin ++ ((44 ∷ []) ∷ codes "paving" ∷ ts))) (sym at_fitting)
      ∙ ap (λ ts. name_texts 40 (codes "origin") ++ ts) (sym (append_assoc (vector_texts w.origin) comma (codes "paving" ∷ (middle_part ++ codes "fitting" ∷ last_part))))

  at_last : tiler_texts w ≡ long_part ++ codes "fitting" ∷ last_part
  at_last =
      ap (λ ts. name_texts 40 (codes "origin") ++ (vector_texts w.origin ++ ((44 ∷ []) ∷ codes "paving" ∷ ts))) (sym at_fitting)
      ∙ ap (λ ts. name_texts 40 (codes "origin") ++ ts) (sym (append_assoc (vector_texts w.origin) ((44 ∷ []) ∷ codes "paving" ∷ middle_part) (codes "fitting" ∷ last_part)))

  first_fails : list_all (λ t. not (is_paving t)) first_part ≡ true
  first_fails = vector_fails is_paving (differs 112 (codes "aving") (omega arith)) refl refl refl w.origin comma first_is.0 refl

  middle_fails : list_all (λ t. not (is_fitting t)) middle_part ≡ true
  middle_fails = matrix_fails is_fitting (differs 102 (codes "itting") (omega arith)) refl refl refl w.paving comma first_is.1 refl

  long_fails : list_all (λ t. not (is_fitting t)) long_part ≡ true
  long_fails = vector_fails is_fitting (differs 102 (codes "itting") (omega arith)) refl refl refl w.origin ((44 ∷ []) ∷ codes "paving" ∷ middle_part) first_is.0 middle_fails

  -- the lexemes of the texts of a tiler write it
  pub written_is : (ls : List Lexeme) → map (λ l. l.text) ls ≡ tiler_texts w → written_tiler ls ≡ w
  written_is ls e =
      let build : List Numeral → List (List Numeral) → List (List Numeral) → WrittenTiler = λ o p f. record { origin = o; paving = p; fitting = f } in
      let ts : List (List ℕ) = map (λ l. l.text) ls in
      let behind : List (List ℕ) = middle_part ++ codes "fitting" ∷ last_part in
      let origin : filter is_numeral (before_first is_paving ts) ≡ w.origin =
      ap (λ us. filter is_numeral (before_first is_paving us)) (e ∙ at_paving)
      ∙ ap (filter is_numeral) (before_it is_paving first_part (codes "paving") behind first_fails refl)
      ∙ filter_vector w.origin comma first_is.0 refl in
      let paving : columns (before_first is_fitting (after_first is_paving ts)) ≡ w.paving =
      ap (λ us. columns (before_first is_fitting (after_first is_paving us))) (e ∙ at_paving)
      ∙ ap (λ us. columns (before_first is_fitting us)) (after_it is_paving first_part (codes "paving") behind first_fails refl)
      ∙ ap columns (before_it is_fitting middle_part (codes "fitting") last_part middle_fails refl)
      ∙ matrix_in w.paving comma first_is.1 refl in
      let fitting : columns (after_first is_fitting ts) ≡ w.fitting =
      ap (λ us. columns (after_first is_fitting us)) (e ∙ at_last)
      ∙ ap columns (after_it is_fitting long_part (codes "fitting") last_part long_fails refl)
      ∙ matrix_in w.fitting ((41 ∷ []) ∷ []) both_is.1 refl in
      ap (λ o. build o (columns (before_first is_fitting (after_first is_paving ts))) (columns (after_first is_fitting ts))) origin
      ∙ ap (λ p. build w.origin p (columns (after_first is_fitting ts))) paving
      ∙ ap (λ f. build w.origin w.paving f) fitting
