-- What a text within the limits stands for is spelled.
use Rattle.std.proofs.Common.{◌≡◌, ℕ, ◌+◌, ◌-◌, ◌*◌, ◌<◌, List, [], ◌∷◌, ◌++◌, length, Bool, true, false, ◌&&◌, ◌==◌, cond, leb, ltb, Option, Some, None, option_map, Ok, refl, subst, arith, codes}
use Rattle.std.specs.List.{list_all}
use Rattle.std.proofs.lemmas.Bool.{and_parts, and_from, leb-true}
use Rattle.aol_shape.specs.declared.limit.LimitName.{LimitName}
use Rattle.aol_shape.specs.declared.limit.LimitName.TheVariants.{Number, Sums}
use Rattle.aol_shape.specs.Numbers.{fits_64}
use Rattle.aol_shape.specs.Lists.{or_else}
use Rattle.aol_shape.specs.Texts.{is_name, is_digit, are_digits, digits_value, numeral_value}
use Rattle.aol_shape.specs.Tokens.{Token, plain, sign, separated, first_passing_from}
use Rattle.aol_shape.specs.Grammar.{Reads}
use Rattle.aol_expr_tree.specs.Tree.{Tree, is_spelled, are_spelled, is_bound}
use Rattle.aol_expr_tree.specs.Text.{Written, numeral, dollar, name, indexed, infix_of, function_of, choice, summed, parens, WrittenList, no_written, written_and, strength, alone, groups_left, is_well, are_well, brackets, bound_token, tokens_in, token_lists, op_text, tree_written, trees_written, expr_grammar}
use Rattle.aol_expr_tree.specs.Reading.{expr_reading}
use Rattle.aol_expr_grammar.proofs.Canonical.{AllPass}
use Rattle.aol_expr_grammar.proofs.Completed.{right}

-- ---- no token passes a limit

either_none : (k : ℕ) (p : Option LimitName) (later : Option (ℕ × LimitName))
    → or_else (option_map (λ name. (k, name)) p) later ≡ None → (p ≡ None) × (later ≡ None)
either_none k None later e = (refl, e)
either_none k (Some n) later e = cc

all_pass : (k : ℕ) (ts : List Token) → first_passing_from k ts ≡ None → AllPass ts
all_pass k [] e = tt
all_pass k (t ∷ ts) e =
    let parts = either_none k t.passes (first_passing_from (k + 1) ts) e in
    (parts.0, all_pass (k + 1) ts parts.1)

-- tokens in a row
pass_parts : (xs ys : List Token) → AllPass (xs ++ ys) → AllPass xs × AllPass ys
pass_parts [] ys h = (tt, h)
pass_parts (x ∷ xs) ys h =
    let parts = pass_parts xs ys h.1 in
    ((h.0, parts.0), parts.1)

abbrev AllMembers : List (List Token) → Type 0
AllMembers [] = Unit {0}
AllMembers (m ∷ ms) = AllPass m × AllMembers ms

-- members with commas between them
pass_members : (ms : List (List Token)) → AllPass (separated ms) → AllMembers ms
pass_members [] h = tt
pass_members (m ∷ []) h = (h, tt)
pass_members (m ∷ n ∷ ms) h =
    let parts = pass_parts m (sign 44 ∷ separated (n ∷ ms)) h in
    (parts.0, pass_members (n ∷ ms) parts.1.1)

-- members in brackets after a word
pass_called : (word : List ℕ) (a b : ℕ) (ms : List (List Token)) → AllPass (plain word ∷ sign a ∷ (separated ms ++ sign b ∷ [])) → AllMembers ms
pass_called word a b ms h = pass_members ms (pass_parts (separated ms) (sign b ∷ []) h.1.1).0

-- a token that passes a limit only where it doesn't fit
fits_there : (b : Bool) (n : LimitName) → cond b None (Some n) ≡ None → b ≡ true
fits_there true n e = refl
fits_there false n e = cc

-- ---- the tree is spelled

-- a digit is below 10
digit_below : (d : ℕ) → is_digit d ≡ true → d - 48 < 10
digit_below d e = let parts = and_parts (leb 48 d) (leb d 57) e in omega (arith, leb-true 48 d parts.0, leb-true d 57 parts.1)

below : (a b : ℕ) → a < b → ltb a b ≡ true
below a b h = grind (arith, h)

-- an index has one digit or two
index_below : (t : List ℕ) → (leb 1 (length t) && leb (length t) 2 && list_all is_digit t) ≡ true → ltb (digits_value t) 100 ≡ true
index_below [] e = cc
index_below (d ∷ []) e =
    let first : is_digit d ≡ true = (and_parts (is_digit d) true (and_parts true (is_digit d && true) e).1).0 in
    below (digits_value (d ∷ [])) 100 (omega (arith, digit_below d first))
index_below (d ∷ c ∷ []) e =
    let parts = and_parts (is_digit d) (is_digit c && true) (and_parts true (is_digit d && (is_digit c && true)) e).1 in
    let second : is_digit c ≡ true = (and_parts (is_digit c) true parts.1).0 in
    below (digits_value (d ∷ c ∷ [])) 100 (omega (arith, digit_below d parts.0, digit_below c second))
index_below (d ∷ c ∷ b ∷ ts) e =
    let t : List ℕ = d ∷ c ∷ b ∷ ts in
    let counted = (and_parts (leb 1 (length t) && leb (length t) 2) (list_all is_digit t) e).0 in
    let short = leb-true (length t) 2 (and_parts (leb 1 (length t)) (leb (length t) 2) counted).1 in
    absurd (omega (arith, short))

mutual
  -- what is well written, of whose tokens none passes a limit
  pub spelled : (around : ℕ) (w : Written) → is_well w ≡ true → AllPass (tokens_in around w) → is_spelled around (tree_written w) ≡ true
  spelled around (numeral t) well h = fits_there (fits_64 (numeral_value t)) Number h.0
  spelled around (dollar t) well h = index_below t well
  spelled around (name x) well h = well
  spelled around (indexed p at) well h =
      let parts = and_parts (is_name p) (are_well at) well in
      and_from (is_name p) (are_spelled around (trees_written at)) parts.0 (all_spelled around at parts.1 (pass_called p 123 125 (token_lists around at) h))
  spelled around (infix_of op l r) well h =
      let last = and_parts (groups_left op l r && is_well l) (is_well r) well in
      let front = and_parts (groups_left op l r) (is_well l) last.0 in
      let both = pass_parts (tokens_in around l) (plain (op_text op) ∷ tokens_in around r) h in
      and_from (is_spelled around (tree_written l)) (is_spelled around (tree_written r)) (spelled around l front.1 both.0) (spelled around r last.1 both.1.1)
  spelled around (function_of op l r) well h =
      let last = and_parts (strength op == alone && is_well l) (is_well r) well in
      let front = and_parts (strength op == alone) (is_well l) last.0 in
      let each = pass_called (op_text op) 40 41 (tokens_in around l ∷ tokens_in around r ∷ []) h in
      and_from (is_spelled around (tree_written l)) (is_spelled around (tree_written r)) (spelled around l front.1 each.0) (spelled around r last.1 each.1.0)
  spelled around (choice c a b) well h =
      let last = and_parts (is_well c && is_well a) (is_well b) well in
      let front = and_parts (is_well c) (is_well a) last.0 in
      let each = pass_called (codes "if") 40 41 (tokens_in around c ∷ tokens_in around a ∷ tokens_in around b ∷ []) h in
      and_from (is_spelled around (tree_written c) && is_spelled around (tree_written a)) (is_spelled around (tree_written b))
      (and_from (is_spelled around (tree_written c)) (is_spelled around (tree_written a)) (spelled around c front.0 each.0) (spelled around a front.1 each.1.0))
      (spelled around b last.1 each.1.1.0)
  spelled around (summed x n e) well h =
      let last = and_parts (is_name x && are_digits n) (is_well e) well in
      let front = and_parts (is_name x) (are_digits n) last.0 in
      let each = pass_called (codes "sum") 40 41 ((plain x ∷ []) ∷ (bound_token around n ∷ []) ∷ tokens_in (around * digits_value n) e ∷ []) h in
      and_from (is_name x && is_bound around (digits_value n)) (is_spelled (around * digits_value n) (tree_written e))
      (and_from (is_name x) (is_bound around (digits_value n)) front.0 (fits_there (is_bound around (digits_value n)) Sums each.1.0.0))
      (spelled (around * digits_value n) e last.1 each.1.1.0)
  spelled around (parens w) well h = spelled around w well (pass_parts (tokens_in around w) (sign 41 ∷ []) h.1).0

  all_spelled : (around : ℕ) (ws : WrittenList) → are_well ws ≡ true → AllMembers (token_lists around ws) → are_spelled around (trees_written ws) ≡ true
  all_spelled around no_written well h = refl
  all_spelled around (written_and w ws) well h =
      let parts = and_parts (is_well w) (are_well ws) well in
      and_from (is_spelled around (tree_written w)) (are_spelled around (trees_written ws)) (spelled around w parts.0 h.0) (all_spelled around ws parts.1 h.1)

spelled_value : (text : List ℕ) (t : Tree) → Reads expr_grammar text (Ok t) → is_spelled 1 t ≡ true
spelled_value text t reads =
    let w : Written = reads.0 in
    let well : is_well w ≡ true = (and_parts (is_well w) (leb (brackets w) 100) reads.1.well).0 in
    subst (λ u. is_spelled 1 u ≡ true) reads.3 (spelled 1 w well (all_pass 0 (tokens_in 1 w) reads.2.tokens))

-- what reading a text answers is spelled
pub read_spelled : (text : List ℕ) (t : Tree) → expr_reading text ≡ Ok t → is_spelled 1 t ≡ true
read_spelled text t e = spelled_value text t (subst (Reads expr_grammar text) e (right text))
