-- The first limit that a text passes, lexeme by lexeme.
use Rattle.std.proofs.Common.{◌≡◌, ℕ, zero, suc, ◌+◌, ◌*◌, ◌<◌, ◌≤◌, ℤ, nat_abs, List, [], ◌∷◌, ◌++◌, length, map, filter, Bool, true, false, cond, ◌&&◌, Option, Some, None, option_map, unwrap_or, Result, Ok, Err, refl, sym, ◌∙◌, ap, subst, arith, append_assoc}
use Rattle.std.proofs.lemmas.Bool.{and_parts}
use Rattle.std.proofs.lemmas.List.{length-map}
use Rattle.std.specs.List.{list_all}
use Rattle.aol_shape.specs.declared.limit.LimitName.{LimitName}
use Rattle.aol_shape.specs.Lists.{nth, or_else}
use Rattle.aol_shape.specs.Texts.{is_numeral, numeral_value}
use Rattle.aol_shape.specs.Tokens.{Token, first_passing_from, first_passing, separated, sign, braced}
use Rattle.aol_shape.specs.Grammar.{Grammar, TextFault, at, limit, Lexeme, start_of, limited, reading}
use Rattle.aol_shape.specs.Machine.{Machine, behind, ends, stuck_from, stuck_at, stuck_here}
use Rattle.aol_vsl.specs.Text.{Numeral, member, vector_members, shape_members, vector_limit, shape_limit, vector_grammar, shape_grammar, vector_tokens, shape_tokens}
use Rattle.aol_vsl.specs.Reading.{Goal, recognizer, vector_goals, vector_reading, shape_reading, numerals}
use Rattle.aol_vsl.specs.Walk.{walked}
use Rattle.aol_vsl.proofs.Spaced.{Spaced, texts, more_texts, first_texts, vector_texts}
use Rattle.aol_vsl.proofs.Sound.{vector_sound}
use Rattle.aol_vsl.proofs.Lexemes.{lexed, lexeme, placed, lexed_spaced, lexed_texts, vector_apart}

-- the first limit of tokens, where the lexeme begins that it stands for
abbrev pub first_limit : List Token → List Lexeme → Option (ℕ × LimitName)
first_limit [] ls = None
first_limit (t ∷ ts) [] = None
first_limit (t ∷ ts) (l ∷ ls) = or_else (option_map (λ name. (l.start, name)) t.passes) (first_limit ts ls)

module _ {V : Type 0} where
  -- a value, or the limit that is passed in its place
  abbrev pub answer : Option (ℕ × LimitName) → V → Result V TextFault
  answer None v = Ok v
  answer (Some f) v = Err (limit f.0 f.1)

  limited_by : {W : Type 0} (g : Grammar W V) (ls : List Lexeme) (w : W) → g.whole_limit w ≡ None → (o : Option (ℕ × LimitName)) → first_passing (g.tokens w) ≡ o
      → limited g ls w ≡ answer (option_map (λ f. (start_of ls f.0, f.1)) (first_passing (g.tokens w))) (g.value w)
  limited_by g ls w h None e = rw (e, h)
  limited_by g ls w h (Some f) e = rw e

  pub limited_is : {W : Type 0} (g : Grammar W V) (ls : List Lexeme) (w : W) → g.whole_limit w ≡ None
      → limited g ls w ≡ answer (option_map (λ f. (start_of ls f.0, f.1)) (first_passing (g.tokens w))) (g.value w)
  limited_is g ls w h = limited_by g ls w h (first_passing (g.tokens w)) refl

started : (whole : List Lexeme) (j : ℕ) (ts : List Token) (l : Lexeme) (ls : List Lexeme) (o : Option LimitName) → start_of whole (j + 0) ≡ l.start
    → option_map (λ f. (start_of whole f.0, f.1)) (first_passing_from (j + 1) ts) ≡ first_limit ts ls
    → option_map (λ f. (start_of whole f.0, f.1)) (or_else (option_map (λ name. (j, name)) o) (first_passing_from (j + 1) ts)) ≡ or_else (option_map (λ name. (l.start, name)) o) (first_limit ts ls)
started whole j ts l ls None h k = k
started whole j ts l ls (Some name) h k = let P : ℕ → Option (ℕ × LimitName) = λ s. Some (s, name) in ap P (ap (start_of whole) (omega arith) ∙ h)

-- the first limit by numbers is the first by lexemes
pub first_limit_is : (whole : List Lexeme) (j : ℕ) (ts : List Token) (ls : List Lexeme) → length ts ≡ length ls → ((i : ℕ) → start_of whole (j + i) ≡ start_of ls i)
    → option_map (λ f. (start_of whole f.0, f.1)) (first_passing_from j ts) ≡ first_limit ts ls
first_limit_is whole j [] ls n h = refl
first_limit_is whole j (t ∷ ts) [] n h = absurd (omega (arith, n))
first_limit_is whole j (t ∷ ts) (l ∷ ls) n h = started whole j ts l ls t.passes (h 0) (first_limit_is whole (j + 1) ts ls (omega (arith, n)) (λ i. ap (start_of whole) (omega arith) ∙ h (suc i)))

-- ---- entries one after another

walked_is : {V : Type 0} (o : Option LimitName) (start : ℕ) (rest : Option (ℕ × LimitName)) (v : V) → walked o start (answer rest v) ≡ answer (or_else (option_map (λ name. (start, name)) o) rest) v
walked_is None start rest v = refl
walked_is (Some passed) start rest v = refl

module _ {S V : Type 0} (limit_of : S → ℤ → Option LimitName) (next : S → ℤ → S) (value_of : ℤ → V) where
  -- entries read lexeme by lexeme: the entries so far and what their limits depend on
  abbrev pub walk : S → List V → List Lexeme → Result (List V) TextFault
  walk s vs [] = Ok vs
  walk s vs (l ∷ ls) = cond (is_numeral l.text) (walked (limit_of s (numeral_value l.text)) l.start (walk (next s (numeral_value l.text)) (vs ++ value_of (numeral_value l.text) ∷ []) ls)) (walk s vs ls)

  module _ (s : S) (vs : List V) (l : Lexeme) (ls rest : List Lexeme) (is : ls ≡ l ∷ rest) where
    -- a lexeme that is no numeral is passed over
    pub walk_other : is_numeral l.text ≡ false → walk s vs ls ≡ walk s vs rest
    walk_other h = let v : ℤ = numeral_value l.text in ap (walk s vs) is ∙ ap (λ t. cond t (walked (limit_of s v) l.start (walk (next s v) (vs ++ value_of v ∷ []) rest)) (walk s vs rest)) h

    walk_one : is_numeral l.text ≡ true → walk s vs ls ≡ walked (limit_of s (numeral_value l.text)) l.start (walk (next s (numeral_value l.text)) (vs ++ value_of (numeral_value l.text) ∷ []) rest)
    walk_one h = let v : ℤ = numeral_value l.text in ap (walk s vs) is ∙ ap (λ t. cond t (walked (limit_of s v) l.start (walk (next s v) (vs ++ value_of v ∷ []) rest)) (walk s vs rest)) h

    -- a numeral that passes no limit is an entry
    pub walk_entry : (v : ℤ) → v ≡ numeral_value l.text → is_numeral l.text ≡ true → limit_of s v ≡ None → walk s vs ls ≡ walk (next s v) (vs ++ value_of v ∷ []) rest
    walk_entry v e h k = walk_one h ∙ ap (λ z. walked (limit_of s z) l.start (walk (next s z) (vs ++ value_of z ∷ []) rest)) (sym e) ∙ ap (λ o. walked o l.start (walk (next s v) (vs ++ value_of v ∷ []) rest)) k

    -- one that passes a limit is the answer
    pub walk_limit : (v : ℤ) (passed : LimitName) → v ≡ numeral_value l.text → is_numeral l.text ≡ true → limit_of s v ≡ Some passed → walk s vs ls ≡ Err (limit l.start passed)
    walk_limit v passed e h k = walk_one h ∙ ap (λ z. walked (limit_of s z) l.start (walk (next s z) (vs ++ value_of z ∷ []) rest)) (sym e) ∙ ap (λ o. walked o l.start (walk (next s v) (vs ++ value_of v ∷ []) rest)) k

  -- the entries as members of a list
  abbrev pub members : S → List Numeral → List (List Token)
  members s [] = []
  members s (n ∷ ns) = member n (limit_of s (numeral_value n)) ∷ members (next s (numeral_value n)) ns

  abbrev values : List Numeral → List V
  values = map (λ n. value_of (numeral_value n))

  walk_numeral : (s : S) (vs : List V) (p : ℕ) (n : Numeral) (ls : List Lexeme) → is_numeral n ≡ true
      → walk s vs (lexeme p n ∷ ls) ≡ walked (limit_of s (numeral_value n)) p (walk (next s (numeral_value n)) (vs ++ value_of (numeral_value n) ∷ []) ls)
  walk_numeral s vs p n ls h = ap (λ t. cond t (walked (limit_of s (numeral_value n)) p (walk (next s (numeral_value n)) (vs ++ value_of (numeral_value n) ∷ []) ls)) (walk s vs ls)) h

  walk_more : (s : S) (vs : List V) (n : Numeral) (ns : List Numeral) → list_all is_numeral (n ∷ ns) ≡ true → (p : ℕ) (bytes : List ℕ) (sp : Spaced bytes (n ∷ more_texts ns))
      → walk s vs (placed p bytes (n ∷ more_texts ns) sp) ≡ answer (first_limit (separated (members s (n ∷ ns)) ++ sign 125 ∷ []) (placed p bytes (n ∷ more_texts ns) sp)) (vs ++ values (n ∷ ns))
  walk_more s vs n [] h p bytes sp =
      walk_numeral s vs (p + length sp.0) n (placed (p + length sp.0 + length n) sp.1 (more_texts []) sp.4) (and_parts (is_numeral n) true h).0
      ∙ walked_is (limit_of s (numeral_value n)) (p + length sp.0) None (vs ++ value_of (numeral_value n) ∷ [])
  walk_more s vs n (m ∷ ns) h p bytes sp =
      let parts : (is_numeral n ≡ true) × (list_all is_numeral (m ∷ ns) ≡ true) = and_parts (is_numeral n) (list_all is_numeral (m ∷ ns)) h in
      let start : ℕ = p + length sp.0 in
      let back : ℕ = start + length n + length sp.4.0 + 1 in
      let v : ℤ = numeral_value n in
      let rest : List Lexeme = placed back sp.4.1 (m ∷ more_texts ns) sp.4.4 in
      walk_numeral s vs start n (placed (start + length n) sp.1 (more_texts (m ∷ ns)) sp.4) parts.0
      ∙ ap (walked (limit_of s v) start) (walk_more (next s v) (vs ++ value_of v ∷ []) m ns parts.1 back sp.4.1 sp.4.4 ∙ ap (answer (first_limit (separated (members (next s v) (m ∷ ns)) ++ sign 125 ∷ []) rest)) (append_assoc vs (value_of v ∷ []) (values (m ∷ ns))))
      ∙ walked_is (limit_of s v) start (first_limit (separated (members (next s v) (m ∷ ns)) ++ sign 125 ∷ []) rest) (vs ++ values (n ∷ m ∷ ns))

  pub walk_vector : (s : S) (ns : List Numeral) → list_all is_numeral ns ≡ true → (p : ℕ) (bytes : List ℕ) (sp : Spaced bytes (vector_texts ns))
      → walk s [] (placed p bytes (vector_texts ns) sp) ≡ answer (first_limit (braced (members s ns)) (placed p bytes (vector_texts ns) sp)) (values ns)
  walk_vector s [] h p bytes sp = refl
  walk_vector s (n ∷ ns) h p bytes sp = walk_more s [] n ns h (p + length sp.0 + 1) sp.1 sp.4

pub walked_ok : {V : Type 0} (o : Option LimitName) (start : ℕ) (later : Result V TextFault) (v : V) → walked o start later ≡ Ok v → (o ≡ None) × (later ≡ Ok v)
walked_ok None start later v h = (refl, h)
walked_ok (Some passed) start later v h = cc

-- ---- what a text of entries writes

unstuck-next : (m : Machine (List Goal)) (k : ℕ) (bs : List ℕ) (o : Option (List Goal)) → ((s : List Goal) → stuck_from m (k + 1) (Some s) bs ≡ None → ends m (behind m (Some s) bs) ≡ true)
    → stuck_here k o (stuck_from m (k + 1) o bs) ≡ None → ends m (behind m o bs) ≡ true
unstuck-next m k bs None later h = cc
unstuck-next m k bs (Some s) later h = later s h

unstuck_end : (k : ℕ) (b : Bool) → cond b None (Some k) ≡ None → b ≡ true
unstuck_end k true h = refl
unstuck_end k false h = cc

-- what isn't stuck leads to an end
pub unstuck : (m : Machine (List Goal)) (k : ℕ) (s : List Goal) (bs : List ℕ) → stuck_from m k (Some s) bs ≡ None → ends m (behind m (Some s) bs) ≡ true
unstuck m k s [] h = unstuck_end k (m.may_end s) h
unstuck m k s (b ∷ bs) h = unstuck-next m k bs (m.step s b) (λ t g. unstuck m (k + 1) t bs g) h

numerals_more : (ns : List Numeral) → list_all is_numeral ns ≡ true → filter is_numeral (more_texts ns) ≡ ns
numerals_more [] h = refl
numerals_more (n ∷ ns) h =
    let parts : (is_numeral n ≡ true) × (list_all is_numeral ns ≡ true) = and_parts (is_numeral n) (list_all is_numeral ns) h in
    ap (λ t. cond t (n ∷ filter is_numeral (more_texts ns)) (filter is_numeral (more_texts ns))) parts.0 ∙ ap (λ ms. n ∷ ms) (numerals_more ns parts.1)

-- the numerals among the texts of a vector are those written
pub numerals_are : (ns : List Numeral) → list_all is_numeral ns ≡ true → filter is_numeral (vector_texts ns) ≡ ns
numerals_are [] h = refl
numerals_are (n ∷ ns) h = numerals_more (n ∷ ns) h

module _ {S V : Type 0} (limit_of : S → ℤ → Option LimitName) (next : S → ℤ → S) (value_of : ℤ → V) where
  members_more : (s : S) (n : Numeral) (ns : List Numeral) → texts (separated (members limit_of next value_of s (n ∷ ns)) ++ sign 125 ∷ []) ≡ n ∷ more_texts ns
  members_more s n [] = refl
  members_more s n (m ∷ ns) = ap (λ ts. n ∷ (44 ∷ []) ∷ ts) (members_more (next s (numeral_value n)) m ns)

  -- entries as tokens have their texts
  pub members_texts : (s : S) (ns : List Numeral) → texts (braced (members limit_of next value_of s ns)) ≡ vector_texts ns
  members_texts s [] = refl
  members_texts s (n ∷ ns) = ap (λ ts. (123 ∷ []) ∷ ts) (members_more s n ns)

  module _ (g : Grammar (List Numeral) (List V)) (s : S) (tokens_are : (ns : List Numeral) → g.tokens ns ≡ braced (members limit_of next value_of s ns)) (no_whole : (ns : List Numeral) → g.whole_limit ns ≡ None)
      (value_is : (ns : List Numeral) → g.value ns ≡ map (λ n. value_of (numeral_value n)) ns) where
    -- a text that spells numerals is read lexeme by lexeme
    pub entries_limited : (text : List ℕ) (ns : List Numeral) → list_all is_numeral ns ≡ true → (sp : Spaced text (vector_texts ns)) → limited g (lexed 0 text) ns ≡ walk limit_of next value_of s [] (lexed 0 text)
    entries_limited text ns h sp =
        let ls : List Lexeme = lexed 0 text in
        let is : ls ≡ placed 0 text (vector_texts ns) sp = lexed_spaced (vector_texts ns) (vector_apart ns h) 0 text sp in
        let many : length (braced (members limit_of next value_of s ns)) ≡ length ls = sym (length-map (braced (members limit_of next value_of s ns)) (λ t. t.text)) ∙ ap length (members_texts s ns ∙ sym (lexed_texts (vector_texts ns) (vector_apart ns h) 0 text sp)) ∙ length-map ls (λ l. l.text) in
        limited_is g ls ns (no_whole ns)
        ∙ ap (λ v. answer (option_map (λ f. (start_of ls f.0, f.1)) (first_passing (g.tokens ns))) v) (value_is ns)
        ∙ ap (λ ts. answer (option_map (λ f. (start_of ls f.0, f.1)) (first_passing ts)) (map (λ n. value_of (numeral_value n)) ns)) (tokens_are ns)
        ∙ ap (λ o. answer o (map (λ n. value_of (numeral_value n)) ns)) (first_limit_is ls 0 (braced (members limit_of next value_of s ns)) ls many (λ i. ap (start_of ls) (omega arith)))
        ∙ ap (λ ms. answer (first_limit (braced (members limit_of next value_of s ns)) ms) (map (λ n. value_of (numeral_value n)) ns)) is
        ∙ sym (walk_vector limit_of next value_of s ns h 0 text sp)
        ∙ ap (walk limit_of next value_of s []) (sym is)

    written_by : (text : List ℕ) → (ns : List Numeral) × (list_all is_numeral ns ≡ true) × Spaced text (vector_texts ns) → limited g (lexed 0 text) (numerals (lexed 0 text)) ≡ walk limit_of next value_of s [] (lexed 0 text)
    written_by text w =
        let same : numerals (lexed 0 text) ≡ w.0 = ap (filter is_numeral) (lexed_texts (vector_texts w.0) (vector_apart w.0 w.1) 0 text w.2) ∙ numerals_are w.0 w.1 in
        ap (limited g (lexed 0 text)) same ∙ entries_limited text w.0 w.1 w.2

    -- and so is a text that isn't stuck
    pub entries_reading : (text : List ℕ) → stuck_at (recognizer vector_goals) text ≡ None → reading g (stuck_at (recognizer vector_goals) text) (lexed 0 text) numerals ≡ walk limit_of next value_of s [] (lexed 0 text)
    entries_reading text e = ap (λ o. reading g o (lexed 0 text) numerals) e ∙ written_by text (vector_sound text (unstuck (recognizer vector_goals) 0 vector_goals text e))
