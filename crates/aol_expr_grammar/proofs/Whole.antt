-- A whole text that spells what is well written is read as what it stands for, or as its first limit.
use Rattle.std.proofs.Common.{◌≡◌, ℕ, ◌+◌, ◌≤◌, List, [], length, true, ◌&&◌, ◌==◌, Option, None, refl, sym, ◌∙◌, ap, arith}
use Rattle.std.specs.List.{list_all}
use Rattle.std.proofs.lemmas.Bool.{and_parts}
use Rattle.std.proofs.lemmas.List.{append-nil}
use Rattle.aol_shape.specs.declared.limit.LimitName.{LimitName}
use Rattle.aol_shape.specs.Texts.{is_blank, is_name, is_numeral, are_digits}
use Rattle.aol_shape.specs.Tokens.{IsSpaced}
use Rattle.aol_expr_tree.specs.declared.part.Part.{Part}
use Rattle.aol_expr_tree.specs.declared.reader.Held.{Held}
use Rattle.aol_expr_tree.specs.declared.reader.Mode.TheVariants.{Whole}
use Rattle.aol_expr_tree.specs.Tree.{Tree}
use Rattle.aol_expr_tree.specs.Text.{Written, numeral, dollar, name, indexed, infix_of, function_of, choice, summed, parens, WrittenList, no_written, written_and, strength, alone, groups_left, brackets, is_well, are_well, tokens_in, tree_written}
use Rattle.aol_expr_tree.specs.Parts.{seen}
use Rattle.aol_expr_tree.specs.Reading.{nothing_waits, grouped, stepped, after_operand, whole, finished, answered, expr_reading}
use Rattle.aol_expr_grammar.proofs.Bytewise.{ends_at}
use Rattle.aol_expr_grammar.proofs.Goes.{held_at, reads, skips}
use Rattle.aol_expr_grammar.proofs.Grouping.{nothing_free, groups}
use Rattle.aol_expr_grammar.proofs.Spellings.{whole_stays}
use Rattle.aol_expr_grammar.proofs.Evidence.{first_passed}
use Rattle.aol_expr_grammar.proofs.Operands.{holding, numeral_leaf, dollar_leaf, name_leaf}
use Rattle.aol_expr_grammar.proofs.Nested.{ReadsAs, infix_read, parens_read, function_read, choice_read}
use Rattle.aol_expr_grammar.proofs.Arguments.{ReadsIndices, summed_read, no_indices_read, indices_read, no_more_read, one_more_read}

numeral_reads : (t : List ℕ) → is_numeral t ≡ true → ReadsAs (numeral t)
numeral_reads t well around k h bytes us s ts e f room agrees free = numeral_leaf k h bytes us s ts t e f well

dollar_reads : (t : List ℕ) → is_well (dollar t) ≡ true → ReadsAs (dollar t)
dollar_reads t well around k h bytes us s ts e f room agrees free = dollar_leaf k h bytes us s ts t e f well

name_reads : (x : List ℕ) → is_name x ≡ true → ReadsAs (name x)
name_reads x well around k h bytes us s ts e f room agrees free = name_leaf k h bytes us s ts x e f well

mutual
  -- what is well written is read as its tree
  pub read_written : (w : Written) → is_well w ≡ true → ReadsAs w
  read_written (numeral t) h = numeral_reads t h
  read_written (dollar t) h = dollar_reads t h
  read_written (name x) h = name_reads x h
  read_written (indexed x no_written) h = no_indices_read x (and_parts (is_name x) true h).0
  read_written (indexed x (written_and w ws)) h =
      let front = and_parts (is_name x) (are_well (written_and w ws)) h in
      let parts = and_parts (is_well w) (are_well ws) front.1 in
      indices_read x w ws front.0 parts.0 (read_written w parts.0) (read_indices ws parts.1)
  read_written (infix_of op l r) h =
      let last = and_parts (groups_left op l r && is_well l) (is_well r) h in
      let front = and_parts (groups_left op l r) (is_well l) last.0 in
      infix_read op l r front.0 last.1 (read_written l front.1) (read_written r last.1)
  read_written (function_of op l r) h =
      let last = and_parts ((strength op == alone) && is_well l) (is_well r) h in
      let front = and_parts (strength op == alone) (is_well l) last.0 in
      function_read op l r front.0 (read_written l front.1) (read_written r last.1)
  read_written (choice c a b) h =
      let last = and_parts (is_well c && is_well a) (is_well b) h in
      let front = and_parts (is_well c) (is_well a) last.0 in
      choice_read c a b (read_written c front.0) (read_written a front.1) (read_written b last.1)
  read_written (summed x n e) h =
      let last = and_parts (is_name x && are_digits n) (is_well e) h in
      let front = and_parts (is_name x) (are_digits n) last.0 in
      summed_read x n e front.0 front.1 (read_written e last.1)
  read_written (parens w) h = parens_read w (read_written w h)

  pub read_indices : (ws : WrittenList) → are_well ws ≡ true → ReadsIndices ws
  read_indices no_written h = no_more_read
  read_indices (written_and w ws) h =
      let parts = and_parts (is_well w) (are_well ws) h in
      one_more_read w ws (read_written w parts.0) (read_indices ws parts.1)

-- ---- the end

end_on : (k : ℕ) (passed : Option (ℕ × LimitName)) (h : Held) (p : Part) → h.levels ≡ [] → reads k h (Whole p) [] ≡ answered h.passed (grouped h.waiting p)
unfolding finished stepped after_operand whole
end_on k passed h p none = ends_at k (record { held = held_at k h; mode = Whole p }) refl ∙ rw none refl

ends_on : (k : ℕ) (h : Held) (p : Part) (rest : List ℕ) → h.levels ≡ [] → list_all is_blank rest ≡ true → reads k h (Whole p) rest ≡ answered h.passed (grouped h.waiting p)
ends_on k h p rest none blank =
    ap (reads k h (Whole p)) (sym (append-nil rest))
    ∙ skips h (Whole p) (whole_stays h p) k rest [] blank
    ∙ end_on (k + length rest) h.passed h p none

-- what reading a text answers that spells what is written
pub record IsReadAs (text : List ℕ) (w : Written) (s : IsSpaced text (tokens_in 1 w)) : Type 0 where
  pub stands : Tree
  pub exact : first_passed None 0 text (tokens_in 1 w) s ≡ None → stands ≡ tree_written w
  pub answer : expr_reading text ≡ answered (first_passed None 0 text (tokens_in 1 w) s) (seen stands)

pub read_as : (text : List ℕ) (w : Written) → is_well w ≡ true → brackets w ≤ 100 → (s : IsSpaced text (tokens_in 1 w)) → IsReadAs text w s
unfolding expr_reading
read_as text w well few s =
    let h : Held = record { place = 0; passed = None; levels = []; waiting = nothing_waits; around = 1 } in
    let a = read_written w well 1 0 h text (tokens_in 1 w) s [] (sym (append-nil (tokens_in 1 w))) refl (omega arith) (λ q. (refl, omega arith)) (nothing_free _) in
    record {
      stands = a.stands;
      exact = λ q. (a.exact (sym a.same ∙ q)).1;
      answer = a.on ∙ ends_on a.place (holding h a.passed a.waiting) a.part a.rest refl a.left ∙ ap (answered a.passed) (groups _ a.waiting a.part a.stands a.alike) ∙ ap (λ p. answered p (seen a.stands)) (sym a.same);
    }
