-- Reading expressions is their grammar.
use Rattle.std.proofs.Common.{◌≡◌, ℕ, ◌+◌, ◌⊎◌, inl, inr, List, [], ◌∷◌, Bool, true, false, cond, Option, Some, None, Ok, Err, refl, sym, ap, subst}
use Rattle.aol_shape.specs.declared.limit.LimitName.{LimitName}
use Rattle.aol_shape.specs.Grammar.{at, limit, IsTextOf, IsText, IsWithinLimits, PassesAt, Reads}
use Rattle.aol_shape.specs.Machine.{behind, ends, accepts, stuck_here, stuck_from, stuck_at}
use Rattle.aol_shape.proofs.Stuck.{stuck-fails}
use Rattle.aol_expr_tree.specs.declared.reader.Reader.{Reader}
use Rattle.aol_expr_tree.specs.Text.{Written, tree_written, expr_grammar}
use Rattle.aol_expr_tree.specs.Reading.{recognizer, by_stuck, reading_from, expr_reading}
use Rattle.aol_expr_grammar.proofs.Lives.{live}
use Rattle.aol_expr_grammar.proofs.Sound.{sound}

-- reading the text answers the value of what it spells, or the first limit that this passes
abbrev pub Answered : List ℕ → Written → Type 0
Answered text w = (IsWithinLimits expr_grammar w × (expr_reading text ≡ Ok (tree_written w)))
    ⊎ ((byte : ℕ) × (name : LimitName) × PassesAt expr_grammar text w byte name × (expr_reading text ≡ Err (limit byte name)))

unstuck-end : (k : ℕ) (b : Bool) → cond b None (Some k) ≡ None → b ≡ true
unstuck-end k true e = refl
unstuck-end k false e = cc

unstuck-next : (k : ℕ) (bs : List ℕ) → ((r : Reader) → stuck_from recognizer (k + 1) (Some r) bs ≡ None → ends recognizer (behind recognizer (Some r) bs) ≡ true)
    → (o : Option Reader) → stuck_here k o (stuck_from recognizer (k + 1) o bs) ≡ None → ends recognizer (behind recognizer o bs) ≡ true
unstuck-next k bs later None e = cc
unstuck-next k bs later (Some r) e = later r e

-- a text that isn't stuck is accepted
unstuck : (k : ℕ) (r : Reader) (bs : List ℕ) → stuck_from recognizer k (Some r) bs ≡ None → ends recognizer (behind recognizer (Some r) bs) ≡ true
unstuck k r [] e = unstuck-end k (recognizer.may_end r) e
unstuck k r (b ∷ bs) e = unstuck-next k bs (λ s f. unstuck (k + 1) s bs f) (recognizer.step r b) e

reading_is : (text : List ℕ) (o : Option ℕ) → stuck_at recognizer text ≡ o → expr_reading text ≡ by_stuck o (behind recognizer (Some recognizer.start) text)
unfolding expr_reading reading_from
reading_is text o e = ap (λ p. by_stuck p (behind recognizer (Some recognizer.start) text)) e

-- what is answered is no byte at which the text is stuck
not_stuck : (text : List ℕ) (w : Written) (byte : ℕ) → expr_reading text ≡ Err (at byte) → Answered text w → ⊥
not_stuck text w byte e (inl a) = let f : expr_reading text ≡ Ok (tree_written w) = a.1 in cc
not_stuck text w byte e (inr a) = let f : expr_reading text ≡ Err (limit a.0 a.1) = a.3 in cc

module _ (complete : (text : List ℕ) (w : Written) → IsTextOf expr_grammar text w → Answered text w) where
  accepted : (text : List ℕ) → IsText expr_grammar text → accepts recognizer text ≡ true
  accepted text t = by_stuck_at (stuck_at recognizer text) refl
    where
      by_stuck_at : (o : Option ℕ) → stuck_at recognizer text ≡ o → accepts recognizer text ≡ true
      by_stuck_at None e = unstuck 0 recognizer.start text e
      by_stuck_at (Some byte) e = absurd (not_stuck text t.0 byte (reading_is text (Some byte) e) (complete text t.0 t.1))

  answered_right : (text : List ℕ) (w : Written) → IsTextOf expr_grammar text w → Answered text w → Reads expr_grammar text (expr_reading text)
  answered_right text w t (inl a) = subst (Reads expr_grammar text) (sym a.1) (w, t, a.0, refl)
  answered_right text w t (inr a) = subst (Reads expr_grammar text) (sym a.3) (w, t, a.2)

  -- what reading answers is right by the grammar
  pub expressions_right : (text : List ℕ) → Reads expr_grammar text (expr_reading text)
  expressions_right text = by_stuck_at (stuck_at recognizer text) refl
    where
      by_stuck_at : (o : Option ℕ) → stuck_at recognizer text ≡ o → Reads expr_grammar text (expr_reading text)
      by_stuck_at None e = let t : IsText expr_grammar text = sound text (unstuck 0 recognizer.start text e) in answered_right text t.0 t.1 (complete text t.0 t.1)
      by_stuck_at (Some byte) e = subst (Reads expr_grammar text) (sym (reading_is text (Some byte) e)) (stuck-fails recognizer (IsText expr_grammar) sound accepted live text byte e)
