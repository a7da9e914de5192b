-- What reading a spelling answers is the value of what it spells, or the first limit that this passes.
use Rattle.std.proofs.Common.{◌≡◌, ℕ, ◌+◌, min, ◌⊎◌, inl, inr, List, Bool, true, false, cond, leb, Option, Some, None, Result, Ok, Err, refl, ◌∙◌, ap, subst, arith}
use Rattle.std.proofs.lemmas.Bool.{leb-true, leb-false, le-leb, lt-leb, and_parts}
use Rattle.aol_shape.specs.declared.limit.LimitName.{LimitName}
use Rattle.aol_shape.specs.declared.limit.LimitName.TheVariants as limits
use Rattle.aol_shape.specs.Tokens.{first_passing, BeginsAt}
use Rattle.aol_shape.specs.Grammar.{limit, IsTextOf, PassesAt, Reads}
use Rattle.aol_expr_tree.specs.Tree.{Tree, nodes, depth, max_nodes, max_depth}
use Rattle.aol_expr_tree.specs.Parts.{seen, forgotten}
use Rattle.aol_expr_tree.specs.Text.{Written, is_well, brackets, tokens_in, tree_written, tree_limit, expr_grammar}
use Rattle.aol_expr_tree.specs.Reading.{answered, expr_reading}
use Rattle.aol_expr_tree.specs.Answers.{Gives, IsRight}
use Rattle.aol_expr_tree.specs.declared.expr.ExprRefused.{ExprRefused}
use Rattle.aol_expr_tree.specs.declared.expr.ExprRefused.TheVariants.{At, Limit, NoMemory}
use Rattle.aol_expr_grammar.proofs.Solid.{solid}
use Rattle.aol_expr_grammar.proofs.Evidence.{first_passed}
use Rattle.aol_expr_grammar.proofs.Whole.{IsReadAs, read_as}
use Rattle.aol_expr_grammar.proofs.Begins.{Passes, passes_at, none_passes}
use Rattle.aol_expr_grammar.proofs.Judged.{Answered, expressions_right}

-- what is answered where no token passes a limit
by_limit : (t : Tree) (n : Bool) → leb (nodes t) max_nodes ≡ n → (d : Bool) → leb (depth t) max_depth ≡ d
    → ((tree_limit t ≡ None) × (answered None (seen t) ≡ Ok t)) ⊎ ((name : LimitName) × (tree_limit t ≡ Some name) × (answered None (seen t) ≡ Err (limit 0 name)))
unfolding answered seen
by_limit t true e true f = inl (rw (e, f) refl, rw (e, f) refl)
by_limit t true e false f = inr (limits.Depth, rw (e, f) refl, rw (e, f) few)
  where
    few : answered None (forgotten (nodes t)) ≡ Err (limit 0 limits.Depth)
    few = ap (λ b. Err (limit 0 (cond b limits.Depth limits.Expression))) (le-leb (min (nodes t) (max_nodes + 1)) max_nodes (omega (arith, leb-true (nodes t) max_nodes e)))
by_limit t false e d f = inr (limits.Expression, rw e refl, rw e many)
  where
    many : answered None (forgotten (nodes t)) ≡ Err (limit 0 limits.Expression)
    many = ap (λ b. Err (limit 0 (cond b limits.Depth limits.Expression))) (lt-leb (min (nodes t) (max_nodes + 1)) max_nodes (omega (arith, leb-false (nodes t) max_nodes e)))

module _ (text : List ℕ) (w : Written) (t : IsTextOf expr_grammar text w) (c : IsReadAs text w t.spaced) where
  token_passes : (byte : ℕ) (passed : LimitName) (k : ℕ) → first_passing (tokens_in 1 w) ≡ Some (k, passed) → BeginsAt text (tokens_in 1 w) k byte → PassesAt expr_grammar text w byte passed
  token_passes byte passed k e b = rw e (refl, b)

  whole_passes : (passed : LimitName) → first_passing (tokens_in 1 w) ≡ None → tree_limit (tree_written w) ≡ Some passed → PassesAt expr_grammar text w 0 passed
  whole_passes passed e l = rw e (l, refl)

  by_passed : (o : Option (ℕ × LimitName)) → first_passed None 0 text (tokens_in 1 w) t.spaced ≡ o → Answered text w
  unfolding answered
  by_passed (Some f) e =
      let well : is_well w ≡ true = (and_parts (is_well w) (leb (brackets w) 100) t.well).0 in
      let p : Passes 0 0 text (tokens_in 1 w) f.0 f.1 = passes_at 0 0 text (tokens_in 1 w) t.spaced f.0 f.1 (solid 1 w well) e in
      let number : p.number ≡ 0 + p.number = omega arith in
      let byte : p.start ≡ f.0 = omega (arith, p.byte_is) in
      let begins : BeginsAt text (tokens_in 1 w) (0 + p.number) f.0 = subst (λ j. BeginsAt text (tokens_in 1 w) j f.0) number (subst (λ o. BeginsAt text (tokens_in 1 w) p.number o) byte p.begins) in
      inr (f.0, f.1, token_passes f.0 f.1 (0 + p.number) p.first begins, c.answer ∙ ap (λ o. answered o (seen c.stands)) e)
  by_passed None e =
      let none : first_passing (tokens_in 1 w) ≡ None = none_passes 0 0 text (tokens_in 1 w) t.spaced e in
      let read : expr_reading text ≡ answered None (seen (tree_written w)) = c.answer ∙ ap (λ o. answered o (seen c.stands)) e ∙ ap (λ u. answered None (seen u)) (c.exact e) in
      elim (by_limit (tree_written w) (leb (nodes (tree_written w)) max_nodes) refl (leb (depth (tree_written w)) max_depth) refl) [
        | inl l ↦ inl (record { tokens = none; whole = l.0 }, read ∙ l.1)
        | inr l ↦ inr (0, l.0, whole_passes l.0 none l.1, read ∙ l.2)
      ]

  -- a spelling that is read so is answered right
  pub is_answered : Answered text w
  is_answered = by_passed (first_passed None 0 text (tokens_in 1 w) t.spaced) refl

-- what reading answers is right by the grammar
pub right : (text : List ℕ) → Reads expr_grammar text (expr_reading text)
right = expressions_right (λ text w t. is_answered text w t (read text w t))
  where
    read : (text : List ℕ) (w : Written) (t : IsTextOf expr_grammar text w) → IsReadAs text w t.spaced
    read text w t =
        let parts : (is_well w ≡ true) × (leb (brackets w) 100 ≡ true) = and_parts (is_well w) (leb (brackets w) 100) t.well in
        read_as text w parts.0 (leb-true (brackets w) 100 parts.1) t.spaced

-- so the code's answer is
pub answer_right : (text : List ℕ) (r : Result Tree ExprRefused) → Gives r (expr_reading text) → IsRight text r
answer_right text (Ok e) g = subst (Reads expr_grammar text) g (right text)
answer_right text (Err (At byte)) g = subst (Reads expr_grammar text) g (right text)
answer_right text (Err (Limit byte passed)) g = subst (Reads expr_grammar text) g (right text)
answer_right text (Err NoMemory) g = tt
