-- A tiler's text read lexeme by lexeme is the tiler, or the first limit that it passes.
use Rattle.std.proofs.Common.{◌≡◌, ℕ, suc, ◌+◌, ℤ, List, [], ◌∷◌, ◌++◌, length, get_or, map, Bool, true, false, cond, ◌&&◌, eqb, leb, Option, Some, None, option_map, Result, Ok, Err, refl, sym, ◌∙◌, ap, subst, arith, append_assoc, codes}
use Rattle.std.proofs.lemmas.Bool.{and_parts, ne_eqb, false≢true}
use Rattle.std.proofs.lemmas.List.{length-append}
use Rattle.std.specs.List.{list_all}
use Rattle.aol_shape.specs.declared.limit.LimitName.{LimitName}
use Rattle.aol_shape.specs.declared.limit.LimitName.TheVariants.{Rank}
use Rattle.aol_shape.specs.Lists.{or_else}
use Rattle.aol_shape.specs.Texts.{is_numeral, numeral_value}
use Rattle.aol_shape.specs.Tokens.{Token, plain, sign, separated, first_passing, first_passing_from}
use Rattle.aol_shape.specs.Machine.{stuck_at}
use Rattle.aol_shape.specs.Grammar.{TextFault, at, limit, Lexeme, start_of, limited, reading, IsText}
use Rattle.aol_tiler.specs.Matrices.{TilerOf}
use Rattle.aol_vsl.specs.Text.{Numeral, WrittenTiler, is_written_tiler, written_value, column_limit, column_members, column_tokens, columns_from, vector_tokens, matrix_tokens, tiler_tokens, tiler_grammar}
use Rattle.aol_vsl.specs.Reading.{recognizer, tiler_goals, tiler_reading, written_tiler}
use Rattle.aol_vsl.specs.Walk.{walked, then_read, begins, behind_brace, close_limit, column_walk, matrix_walk, tiler_walk}
use Rattle.aol_vsl.proofs.Spaced.{texts, to_spaced}
use Rattle.aol_vsl.proofs.Lexemes.{lexed, lexeme, lexed_texts}
use Rattle.aol_vsl.proofs.Limits.{answer, limited_is, unstuck}
use Rattle.aol_vsl.proofs.TilerWritten.{numeral_low}
use Rattle.aol_vsl.proofs.TilerGrammar.{sound, apart_of, spelled_tiler, four}
use Rattle.aol_vsl.proofs.TilersAgain.{column_is}

-- ---- a matrix column by column

then_walked : {A B : Type 0} (o : Option LimitName) (p : ℕ) (r : Result A TextFault) (next : A → Result B TextFault) → then_read (walked o p r) next ≡ walked o p (then_read r next)
then_walked None p r next = refl
then_walked (Some passed) p r next = refl

then_either : {A B : Type 0} (b : Bool) (x y : Result A TextFault) (next : A → Result B TextFault) (u v : Result B TextFault) → then_read x next ≡ u → then_read y next ≡ v → then_read (cond b x y) next ≡ cond b u v
then_either true x y next u v e f = e
then_either false x y next u v e f = f

-- a matrix inside a column is that column, and the rest of the matrix
pub matrix_inside : (cs : List (List ℤ)) (opened : ℕ) (vs : List ℤ) (ls : List Lexeme) → then_read (column_walk (length cs) opened vs ls) (λ r. matrix_walk None (cs ++ r.0 ∷ []) r.1) ≡ matrix_walk (Some (opened, vs)) cs ls
matrix_inside cs opened vs [] = then_walked (close_limit (length cs) vs) opened (Ok (vs, [])) (λ r. matrix_walk None (cs ++ r.0 ∷ []) r.1)
matrix_inside cs opened vs (l ∷ ls) =
    let next : List ℤ × List Lexeme → Result (List (List ℤ) × List Lexeme) TextFault = λ r. matrix_walk None (cs ++ r.0 ∷ []) r.1 in
    let z : ℤ = numeral_value l.text in
    let o : Option LimitName = column_limit (length cs) (length vs) z in
    then_either (begins 125 l) _ _ next _ _
    (then_walked (close_limit (length cs) vs) opened (Ok (vs, ls)) next)
    (then_either (is_numeral l.text) _ _ next _ _
    (then_walked o l.start (column_walk (length cs) opened (vs ++ z ∷ []) ls) next ∙ ap (walked o l.start) (matrix_inside cs opened (vs ++ z ∷ []) ls))
    (matrix_inside cs opened vs ls))

-- ---- parts

-- tokens as lexemes that begin at these places, from number k on
abbrev stood : (ℕ → ℕ) → ℕ → List Token → List Lexeme
stood s k [] = []
stood s k (t ∷ ts) = lexeme (s k) t.text ∷ stood s (k + 1) ts

stood_is : (s : ℕ → ℕ) (k : ℕ) (ts : List Token) (ls : List Lexeme) → map (λ l. l.text) ls ≡ texts ts → ((i : ℕ) → s (k + i) ≡ start_of ls i) → ls ≡ stood s k ts
stood_is s k [] [] e h = refl
stood_is s k [] (l ∷ ls) e h = cc
stood_is s k (t ∷ ts) [] e h = cc
stood_is s k (t ∷ ts) (l ∷ ls) e h =
    let first : l.text ≡ t.text = cc in
    let rest : map (λ (m : Lexeme). m.text) ls ≡ texts ts = cc in
    let start : s k ≡ l.start = ap s (omega arith) ∙ h 0 in
    ap (λ p. lexeme p l.text ∷ ls) (sym start) ∙ ap (λ u. lexeme (s k) u ∷ ls) first
    ∙ ap (λ ms. lexeme (s k) t.text ∷ ms) (stood_is s (k + 1) ts ls rest (λ i. ap s (omega arith) ∙ h (suc i)))

module _ (s : ℕ → ℕ) where
  -- what is read fits the first limit of the tokens that are read: it is that limit, or `P` holds
  abbrev Outcome : {V : Type 0} → Result V TextFault → Option (ℕ × LimitName) → (V → Option (ℕ × LimitName) → Type 0) → Type 0
  Outcome (Ok v) first P = P v first
  Outcome (Err (at byte)) first P = ⊥
  Outcome (Err (limit byte name)) first P = (i : ℕ) × (first ≡ Some (i, name)) × (s i ≡ byte)

  -- a part is read as this value, no limit is passed in it, and these tokens come after it
  abbrev Part : {V : Type 0} → List Token → V → V × List Lexeme → Option (ℕ × LimitName) → Type 0
  Part us v r first = (r.0 ≡ v) × (k : ℕ) × (r.1 ≡ stood s k us) × (first ≡ first_passing_from k us)

  -- what comes after a part
  then_part : {V B : Type 0} (us : List Token) (v : V) (Q : B → Option (ℕ × LimitName) → Type 0) (r : Result (V × List Lexeme) TextFault) (next : V × List Lexeme → Result B TextFault) (first : Option (ℕ × LimitName))
      → Outcome r first (Part us v) → ((k : ℕ) → Outcome (next (v, stood s k us)) (first_passing_from k us) Q) → Outcome (then_read r next) first Q
  then_part {V} {B} us v Q (Ok r) next first p h =
      let pair : V → List Lexeme → V × List Lexeme = λ x ls. (x, ls) in
      let is : r ≡ pair v (stood s p.1 us) = ap (λ x. pair x r.1) p.0 ∙ ap (pair v) p.2 in
      subst (λ f. Outcome (next r) f Q) (sym p.3) (subst (λ q. Outcome (next q) (first_passing_from p.1 us) Q) (sym is) (h p.1))
  then_part us v Q (Err (at byte)) next first p h = p
  then_part us v Q (Err (limit byte passed)) next first p h = p

  walked_outcome : {V : Type 0} (P : V → Option (ℕ × LimitName) → Type 0) (o : Option LimitName) (k : ℕ) (r : Result V TextFault) (first : Option (ℕ × LimitName)) → Outcome r first P
      → Outcome (walked o (s k) r) (or_else (option_map (λ name. (k, name)) o) first) P
  walked_outcome P None k r first h = h
  walked_outcome P (Some passed) k r first h = (k, refl, refl)

  -- ---- columns

  low_begins : (n : Numeral) (p : ℕ) → is_numeral n ≡ true → begins 125 (lexeme p n) ≡ false
  low_begins [] p h = refl
  low_begins (b ∷ bs) p h = ne_eqb b 125 (λ e. absurd (omega (arith, numeral_low b bs h, e)))

  no_close : (j : ℕ) (vs : List ℤ) (z : ℤ) → close_limit j (vs ++ z ∷ []) ≡ None
  no_close j vs z =
      let o : Option LimitName = None in
      ap (λ t. cond (t && leb 12 j) (Some Rank) o) (ne_eqb (length (vs ++ z ∷ [])) 0 (λ e. absurd (omega (arith, e, length-append vs (z ∷ [])))))

  entry_walk : (j opened m p : ℕ) (vs : List ℤ) (n : Numeral) (ls : List Lexeme) → is_numeral n ≡ true → length vs ≡ m
      → column_walk j opened vs (lexeme p n ∷ ls) ≡ walked (column_limit j m (numeral_value n)) p (column_walk j opened (vs ++ numeral_value n ∷ []) ls)
  entry_walk j opened m p vs n ls h e =
      let z : ℤ = numeral_value n in
      let r : Result (List ℤ × List Lexeme) TextFault = walked (column_limit j (length vs) z) p (column_walk j opened (vs ++ z ∷ []) ls) in
      ap (λ t. cond t (walked (close_limit j vs) opened (Ok (vs, ls))) (cond (is_numeral n) r (column_walk j opened vs ls))) (low_begins n p h)
      ∙ ap (λ t. cond t r (column_walk j opened vs ls)) h
      ∙ ap (λ q. walked (column_limit j q z) p (column_walk j opened (vs ++ z ∷ []) ls)) e

  -- entries and the closing brace, in front of other tokens
  abbrev entries : ℕ → ℕ → List Numeral → List Token → List Token
  entries j m ns us = separated (column_members j m ns) ++ sign 125 ∷ us

  entries_part : (j opened m : ℕ) (vs : List ℤ) (n : Numeral) (ns : List Numeral) (k : ℕ) (us : List Token) → list_all is_numeral (n ∷ ns) ≡ true → length vs ≡ m
      → Outcome (column_walk j opened vs (stood s k (entries j m (n ∷ ns) us))) (first_passing_from k (entries j m (n ∷ ns) us)) (Part us (vs ++ map numeral_value (n ∷ ns)))
  entries_part j opened m vs n [] k us h e =
      let z : ℤ = numeral_value n in
      let o : Option LimitName = column_limit j m z in
      let P : List ℤ × List Lexeme → Option (ℕ × LimitName) → Type 0 = Part us (vs ++ z ∷ []) in
      let ls : List Lexeme = stood s (k + 1) (sign 125 ∷ us) in
      let first : Option (ℕ × LimitName) = first_passing_from (k + 1) (sign 125 ∷ us) in
      let last : column_walk j opened (vs ++ z ∷ []) ls ≡ Ok (vs ++ z ∷ [], stood s (k + 1 + 1) us) = ap (λ c. walked c opened (Ok (vs ++ z ∷ [], stood s (k + 1 + 1) us))) (no_close j vs z) in
      subst (λ r. Outcome r (or_else (option_map (λ name. (k, name)) o) first) P) (sym (entry_walk j opened m (s k) vs n ls (and_parts (is_numeral n) true h).0 e))
      (walked_outcome P o k (column_walk j opened (vs ++ z ∷ []) ls) first (subst (λ r. Outcome r first P) (sym last) (refl, k + 1 + 1, refl, refl)))
  entries_part j opened m vs n (n' ∷ ns) k us h e =
      let parts : (is_numeral n ≡ true) × (list_all is_numeral (n' ∷ ns) ≡ true) = and_parts (is_numeral n) (list_all is_numeral (n' ∷ ns)) h in
      let z : ℤ = numeral_value n in
      let o : Option LimitName = column_limit j m z in
      let P : List ℤ × List Lexeme → Option (ℕ × LimitName) → Type 0 = Part us (vs ++ map numeral_value (n ∷ n' ∷ ns)) in
      let ls : List Lexeme = stood s (k + 1) (sign 44 ∷ entries j (m + 1) (n' ∷ ns) us) in
      let first : Option (ℕ × LimitName) = first_passing_from (k + 1) (sign 44 ∷ entries j (m + 1) (n' ∷ ns) us) in
      let later : Outcome (column_walk j opened (vs ++ z ∷ []) ls) first (Part us ((vs ++ z ∷ []) ++ map numeral_value (n' ∷ ns))) = entries_part j opened (m + 1) (vs ++ z ∷ []) n' ns (k + 1 + 1) us parts.1 (omega (arith, e, length-append vs (z ∷ []))) in
      subst (λ r. Outcome r (or_else (option_map (λ name. (k, name)) o) first) P) (sym (entry_walk j opened m (s k) vs n ls parts.0 e))
      (walked_outcome P o k (column_walk j opened (vs ++ z ∷ []) ls) first (subst (λ ws. Outcome (column_walk j opened (vs ++ z ∷ []) ls) first (Part us ws)) (append_assoc vs (z ∷ []) (map numeral_value (n' ∷ ns))) later))

  -- the lexemes after the brace of column j
  abbrev inside : ℕ → ℕ → List Numeral → List Token → List Lexeme
  inside j k c us = stood s (k + 1) (entries j 0 c us)

  empty_part : (j opened k : ℕ) (us : List Token) (t : Bool) → leb 12 j ≡ t → (t ≡ true → opened ≡ s k)
      → Outcome (column_walk j opened [] (inside j k [] us)) (first_passing_from k (column_tokens j [] ++ us)) (Part us [])
  empty_part j opened k us true e h = rw e (k, refl, sym (h refl))
  empty_part j opened k us false e h = rw e (refl, k + 1 + 1, refl, refl)

  column_part : (j opened : ℕ) (c : List Numeral) (k : ℕ) (us : List Token) → list_all is_numeral c ≡ true → (leb 12 j ≡ true → opened ≡ s k)
      → Outcome (column_walk j opened [] (inside j k c us)) (first_passing_from k (column_tokens j c ++ us)) (Part us (map numeral_value c))
  column_part j opened [] k us h e = empty_part j opened k us (leb 12 j) refl e
  column_part j opened (n ∷ ns) k us h e =
      subst (λ ts. Outcome (column_walk j opened [] (inside j k (n ∷ ns) us)) (first_passing_from (k + 1) ts) (Part us (map numeral_value (n ∷ ns)))) (sym (append_assoc (separated (column_members j 0 (n ∷ ns))) (sign 125 ∷ []) us))
      (entries_part j opened 0 [] n ns (k + 1) us h refl)

  -- the tokens of a column, as lexemes
  column_stood : (j k : ℕ) (c : List Numeral) (us : List Token) → stood s k (column_tokens j c ++ us) ≡ lexeme (s k) (123 ∷ []) ∷ inside j k c us
  column_stood j k [] us = refl
  column_stood j k (n ∷ ns) us = ap (λ ts. lexeme (s k) (123 ∷ []) ∷ stood s (k + 1) ts) (append_assoc (separated (column_members j 0 (n ∷ ns))) (sign 125 ∷ []) us)

  -- ---- matrices

  -- columns from column j on and the closing brace, in front of other tokens
  abbrev columns : ℕ → List (List Numeral) → List Token → List Token
  columns j cs us = separated (columns_from j cs) ++ sign 125 ∷ us

  -- a column in front of what comes after it
  one_column : (done : List (List ℤ)) (c : List Numeral) (k : ℕ) (ts us : List Token) (vs : List (List ℤ)) → list_all is_numeral c ≡ true
      → ((k' : ℕ) → Outcome (matrix_walk None (done ++ map numeral_value c ∷ []) (stood s k' ts)) (first_passing_from k' ts) (Part us vs))
      → Outcome (matrix_walk None done (stood s k (column_tokens (length done) c ++ ts))) (first_passing_from k (column_tokens (length done) c ++ ts)) (Part us vs)
  one_column done c k ts us vs h later =
      let j : ℕ = length done in
      let v : List ℤ = map numeral_value c in
      let first : Option (ℕ × LimitName) = first_passing_from k (column_tokens j c ++ ts) in
      let next : List ℤ × List Lexeme → Result (List (List ℤ) × List Lexeme) TextFault = λ r. matrix_walk None (done ++ r.0 ∷ []) r.1 in
      let is : matrix_walk None done (stood s k (column_tokens j c ++ ts)) ≡ then_read (column_walk j (s k) [] (inside j k c ts)) next = ap (matrix_walk None done) (column_stood j k c ts) ∙ sym (matrix_inside done (s k) [] (inside j k c ts)) in
      subst (λ r. Outcome r first (Part us vs)) (sym is)
      (then_part ts v (Part us vs) (column_walk j (s k) [] (inside j k c ts)) next first (column_part j (s k) c k ts h (λ e. refl)) later)

  columns_part : (done : List (List ℤ)) (j : ℕ) (c : List Numeral) (cs : List (List Numeral)) (k : ℕ) (us : List Token) → list_all (list_all is_numeral) (c ∷ cs) ≡ true → length done ≡ j
      → Outcome (matrix_walk None done (stood s k (columns j (c ∷ cs) us))) (first_passing_from k (columns j (c ∷ cs) us)) (Part us (done ++ map (map numeral_value) (c ∷ cs)))
  columns_part done j c [] k us h e =
      subst (λ i. Outcome (matrix_walk None done (stood s k (columns i (c ∷ []) us))) (first_passing_from k (columns i (c ∷ []) us)) (Part us (done ++ map numeral_value c ∷ []))) e
      (one_column done c k (sign 125 ∷ us) us (done ++ map numeral_value c ∷ []) (and_parts (list_all is_numeral c) true h).0 (λ k'. (refl, k' + 1, refl, refl)))
  columns_part done j c (d ∷ cs) k us h e =
      let parts : (list_all is_numeral c ≡ true) × (list_all (list_all is_numeral) (d ∷ cs) ≡ true) = and_parts (list_all is_numeral c) (list_all (list_all is_numeral) (d ∷ cs)) h in
      let v : List ℤ = map numeral_value c in
      let vs : List (List ℤ) = done ++ map (map numeral_value) (c ∷ d ∷ cs) in
      let ts : List Token = sign 44 ∷ columns (length done + 1) (d ∷ cs) us in
      let n : length (done ++ v ∷ []) ≡ length done + 1 = length-append done (v ∷ []) in
      let later : (k' : ℕ) → Outcome (matrix_walk None (done ++ v ∷ []) (stood s k' ts)) (first_passing_from k' ts) (Part us vs) = λ k'. subst (λ ws. Outcome (matrix_walk None (done ++ v ∷ []) (stood s k' ts)) (first_passing_from k' ts) (Part us ws)) (append_assoc done (v ∷ []) (map (map numeral_value) (d ∷ cs)))
      (columns_part (done ++ v ∷ []) (length done + 1) d cs (k' + 1) us parts.1 n) in
      subst (λ i. Outcome (matrix_walk None done (stood s k (columns i (c ∷ d ∷ cs) us))) (first_passing_from k (columns i (c ∷ d ∷ cs) us)) (Part us vs)) e
      (subst (λ us'. Outcome (matrix_walk None done (stood s k us')) (first_passing_from k us') (Part us vs)) (sym (append_assoc (column_tokens (length done) c) (sign 44 ∷ separated (columns_from (length done + 1) (d ∷ cs))) (sign 125 ∷ us)))
      (one_column done c k ts us vs parts.0 later))

  -- the columns after the opening brace of a matrix
  matrix_part : (cs : List (List Numeral)) (k : ℕ) (us : List Token) → list_all (list_all is_numeral) cs ≡ true
      → Outcome (matrix_walk None [] (stood s k (columns 0 cs us))) (first_passing_from k (columns 0 cs us)) (Part us (map (map numeral_value) cs))
  matrix_part [] k us h = (refl, k + 1, refl, refl)
  matrix_part (c ∷ cs) k us h = columns_part [] 0 c cs k us h refl

  -- a matrix after a comma, a name and `=`, in front of other tokens
  abbrev named : List ℕ → List (List Numeral) → List Token → List Token
  named name cs us = sign 44 ∷ plain name ∷ sign 61 ∷ (matrix_tokens cs ++ us)

  named_part : (name : List ℕ) (cs : List (List Numeral)) (k : ℕ) (us : List Token) → eqb (get_or name 0 0) 123 ≡ false → list_all (list_all is_numeral) cs ≡ true
      → Outcome (matrix_walk None [] (behind_brace (stood s k (named name cs us)))) (first_passing_from k (named name cs us)) (Part us (map (map numeral_value) cs))
  named_part name cs k us e h =
      let from : ℕ = k + 1 + 1 + 1 + 1 in
      let ts : List Token = (separated (columns_from 0 cs) ++ sign 125 ∷ []) ++ us in
      let same : ts ≡ columns 0 cs us = append_assoc (separated (columns_from 0 cs)) (sign 125 ∷ []) us in
      let is : behind_brace (stood s k (named name cs us)) ≡ stood s from ts = ap (λ t. cond t (stood s (k + 1 + 1) (sign 61 ∷ (matrix_tokens cs ++ us))) (stood s from ts)) e in
      subst (λ ls. Outcome (matrix_walk None [] ls) (first_passing_from from ts) (Part us (map (map numeral_value) cs))) (sym is)
      (subst (λ us'. Outcome (matrix_walk None [] (stood s from us')) (first_passing_from from us') (Part us (map (map numeral_value) cs))) (sym same) (matrix_part cs from us h))

  -- ---- the whole

  -- a tiler is read as this value, and no limit is passed
  abbrev Whole : TilerOf → TilerOf → Option (ℕ × LimitName) → Type 0
  Whole v t first = (t ≡ v) × (first ≡ None)

  outcome_is : (v : TilerOf) (r : Result TilerOf TextFault) (first : Option (ℕ × LimitName)) → Outcome r first (Whole v) → answer (option_map (λ f. (s f.0, f.1)) first) v ≡ r
  outcome_is v (Ok t) first o = ap (λ f. answer (option_map (λ g. (s g.0, g.1)) f) v) o.1 ∙ ap Ok (sym o.0)
  outcome_is v (Err (at byte)) first o = absurd o
  outcome_is v (Err (limit byte name)) first o = ap (λ f. answer (option_map (λ g. (s g.0, g.1)) f) v) o.1 ∙ ap (λ b. Err (limit b name)) o.2

  module _ (w : WrittenTiler) (h : is_written_tiler w ≡ true) where
    abbrev tokens : List Token
    tokens = sign 40 ∷ plain (codes "origin") ∷ sign 61 ∷ (column_tokens 0 w.origin ++ named (codes "paving") w.paving (named (codes "fitting") w.fitting (sign 41 ∷ [])))

    tokens_are : tiler_tokens w ≡ tokens
    tokens_are =
        let rest : List Token = named (codes "paving") w.paving (named (codes "fitting") w.fitting (sign 41 ∷ [])) in
        let name : ℕ → List ℕ → List Token → List Token = λ c n ts. sign c ∷ plain n ∷ sign 61 ∷ ts in
        four (name 40 (codes "origin") (vector_tokens w.origin)) (name 44 (codes "paving") (matrix_tokens w.paving)) (name 44 (codes "fitting") (matrix_tokens w.fitting)) (sign 41 ∷ [])
        ∙ ap (λ ts. name 40 (codes "origin") (ts ++ rest)) (sym (column_is 0 w.origin refl))

    walk_outcome : Outcome (tiler_walk (stood s 0 tokens)) (first_passing_from 0 tokens) (Whole (written_value w))
    walk_outcome =
        let outer : ((list_all is_numeral w.origin && list_all (list_all is_numeral) w.paving) ≡ true) × (list_all (list_all is_numeral) w.fitting ≡ true) = and_parts (list_all is_numeral w.origin && list_all (list_all is_numeral) w.paving) (list_all (list_all is_numeral) w.fitting) h in
        let inner : (list_all is_numeral w.origin ≡ true) × (list_all (list_all is_numeral) w.paving ≡ true) = and_parts (list_all is_numeral w.origin) (list_all (list_all is_numeral) w.paving) outer.0 in
        let v : TilerOf = written_value w in
        let t4 : List Token = sign 41 ∷ [] in
        let t3 : List Token = named (codes "fitting") w.fitting t4 in
        let t2 : List Token = named (codes "paving") w.paving t3 in
        let made : List ℤ → List (List ℤ) → List (List ℤ) → Result TilerOf TextFault = λ o p f. Ok (record { origin = o; paving = p; fitting = f }) in
        let third : List ℤ → List (List ℤ) × List Lexeme → Result TilerOf TextFault = λ o p. then_read (matrix_walk None [] (behind_brace p.1)) (λ f. made o p.0 f.0) in
        let second : List ℤ × List Lexeme → Result TilerOf TextFault = λ o. then_read (matrix_walk None [] (behind_brace o.1)) (third o.0) in
        let first : Option (ℕ × LimitName) = first_passing_from 3 (column_tokens 0 w.origin ++ t2) in
        subst (λ ls. Outcome (then_read (column_walk 0 0 [] (behind_brace ls)) second) first (Whole v)) (sym (column_stood 0 3 w.origin t2))
        (then_part t2 v.origin (Whole v) (column_walk 0 0 [] (inside 0 3 w.origin t2)) second first (column_part 0 0 w.origin 3 t2 inner.0 (λ e. absurd (false≢true e)))
        (λ k. then_part t3 v.paving (Whole v) (matrix_walk None [] (behind_brace (stood s k t2))) (third v.origin) (first_passing_from k t2) (named_part (codes "paving") w.paving k t3 refl inner.1)
        (λ l. then_part t4 v.fitting (Whole v) (matrix_walk None [] (behind_brace (stood s l t3))) (λ f. made v.origin v.paving f.0) (first_passing_from l t3) (named_part (codes "fitting") w.fitting l t4 refl outer.1)
        (λ m. (refl, refl)))))

-- a text that isn't stuck is read lexeme by lexeme
pub tiler_reading_is : (text : List ℕ) → stuck_at (recognizer tiler_goals) text ≡ None → tiler_reading text ≡ tiler_walk (lexed 0 text)
tiler_reading_is text e =
    let t : IsText tiler_grammar text = sound text (unstuck (recognizer tiler_goals) 0 tiler_goals text e) in
    let w : WrittenTiler = t.0 in
    let ls : List Lexeme = lexed 0 text in
    let s : ℕ → ℕ = start_of ls in
    let have : map (λ l. l.text) ls ≡ texts (tiler_tokens w) = lexed_texts (texts (tiler_tokens w)) (apart_of w t.1.well) 0 text (to_spaced text (tiler_tokens w) t.1.spaced) in
    let is : ls ≡ stood s 0 (tiler_tokens w) = stood_is s 0 (tiler_tokens w) ls have (λ i. ap s (omega arith)) in
    ap (λ o. reading tiler_grammar o ls written_tiler) e
    ∙ ap (limited tiler_grammar ls) (spelled_tiler text w t.1)
    ∙ limited_is tiler_grammar ls w refl
    ∙ ap (λ ts. answer (option_map (λ f. (s f.0, f.1)) (first_passing ts)) (written_value w)) (tokens_are s w t.1.well)
    ∙ outcome_is s (written_value w) _ _ (walk_outcome s w t.1.well)
    ∙ ap tiler_walk (ap (stood s 0) (sym (tokens_are s w t.1.well)) ∙ sym is)
