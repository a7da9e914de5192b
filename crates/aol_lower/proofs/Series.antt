-- What the statements of a sum leave.
use Rattle.std.specs.Prelude.{◌≡◌, ℕ, zero, suc, ◌+◌, ◌<◌, ◌≤◌, ◌-◌, ℤ, pos, negsuc, ◌+ℤ◌, List, [], ◌∷◌, length, slice_get, Option, Some, None, option_and_then, true, Result, Ok, Err}
use Rattle.std.proofs.Common.{refl, sym, ap, subst, arith, ◌∙◌, add-one}
use Rattle.std.proofs.lemmas.List.{length-set}
use Rattle.aol_shape.specs.Numbers.{fits_64}
use Rattle.aol_expr_tree.specs.declared.value.Kind.{Kind}
use Rattle.aol_expr_tree.specs.Meaning.{◌>>=◌, checked, summed}
use Rattle.aol_csyn.specs.Tree.{Stmt, stmts, no_stmts, for_each}
use Rattle.aol_csyn.specs.Meaning.{State, with_var, turns, turn_count, run, run_all}
use Rattle.aol_lower.specs.Effect.{Keeps, IsSound, Holds, Leaves}
use Rattle.aol_lower.specs.Lowered.{nought, guard, then_do, plus, series}
use Rattle.aol_lower.proofs.Steps.{put, put_runs, put_keeps, put_there, put_other, keeps_all, keeps_less, keeps_then, set_first, guard_runs, guard_skips, follow_leaves, ended}
use Rattle.aol_lower.proofs.Loops.{Reached, loop}
use Rattle.aol_lower.proofs.Operations.{plus_leaves}

-- what a variable holds stays where another changes
holds_put : (r : Result ℤ Kind) (d k : ℕ) (n : ℤ) (s : State) → d < k → 0 < d → Holds s d r → Holds (put k n s) d r
holds_put (Ok z) d k n s below some h = (put_other k d n s (λ e. omega (arith, e, below)) ∙ h.0, h.1, put_other k 0 n s (λ e. omega (arith, e, below)) ∙ h.2)
holds_put (Err kind) d k n s below some h = put_other k 0 n s (λ e. omega (arith, e, below)) ∙ h

module _ (tables : List (List ℤ)) (d n : ℕ) (term : List Stmt) (f : ℤ → Result ℤ Kind) (some : 0 < d) where
  abbrev body : List Stmt
  body = guard (then_do term (plus d (d + 2))) ∷ []

  -- the term's statements leave it, from each state after s
  abbrev pub TermLeaves : State → Type 0
  TermLeaves s = (i : ℕ) (t : State) → i < n → Keeps d s t → IsSound t → slice_get t.vars (d + 1) ≡ Some (pos i) → Leaves tables term (d + 2) t (f (pos i))

  -- the sum of the first terms stands in the variable
  record Turn (s : State) (i : ℕ) (t : State) : Type 0 where
    keeps : Keeps d s t
    holds : Holds t d (summed f i)

  module _ (s : State) (room : d + 2 < length s.vars) (leaves : TermLeaves s) where
    -- one more term
    one_more : (i : ℕ) (t : State) (r : Result ℤ Kind) → i < n → Keeps d s t → summed f i ≡ r → Holds t d r → Reached (Turn s (suc i)) (run_all tables (stmts body) (put (d + 1) (pos i) t))
    one_more i t (Err kind) below keeps is fault = record {
      end = put (d + 1) (pos i) t;
      runs = ended tables (run tables (guard (then_do term (plus d (d + 2)))) (put (d + 1) (pos i) t))
          ∙ guard_skips tables (then_do term (plus d (d + 2))) (put (d + 1) (pos i) t) kind (put_other (d + 1) 0 (pos i) t (λ e. omega (arith, e)) ∙ fault);
      known = record {
        keeps = keeps_then d s t (put (d + 1) (pos i) t) keeps (put_keeps d (d + 1) (pos i) t (omega arith));
        holds = subst (λ q. Holds (put (d + 1) (pos i) t) d q) (sym (fault_stays is)) (holds_put (Err kind) d (d + 1) (pos i) t (omega arith) some fault);
      };
    }
      where
        fault_stays : summed f i ≡ Err kind → summed f (suc i) ≡ Err kind
        fault_stays e = rw e refl
    one_more i t (Ok a) below keeps is there =
        let u : State = put (d + 1) (pos i) t in
        let inside : d + 1 < length t.vars = rw keeps.size (omega (arith, room)) in
        let kept : Keeps d t u = put_keeps d (d + 1) (pos i) t (omega arith) in
        let all : Keeps d s u = keeps_then d s t u keeps kept in
        let held = holds_put (Ok a) d (d + 1) (pos i) t (omega arith) some there in
        let next : Result ℤ Kind = f (pos i) >>= (λ z. checked (a +ℤ z)) in
        let l : Leaves tables (then_do term (plus d (d + 2))) d u next
        = follow_leaves tables term (plus d (d + 2)) d (d + 2) u (f (pos i)) (λ z. checked (a +ℤ z)) (omega arith) (leaves i u below all held.2 (put_there (d + 1) (pos i) t inside))
        (λ z w e k h. plus_leaves tables d (d + 2) w a z (record {
          some = some;
          inside = rw (k.size, all.size) (omega (arith, room));
          left = k.below d some (omega arith) ∙ held.0;
          right = h.0;
          left_fits = held.1;
          right_fits = h.1;
          sound = h.2;
        })) in
        record {
          end = l.end;
          runs = ended tables (run tables (guard (then_do term (plus d (d + 2)))) u) ∙ (guard_runs tables (then_do term (plus d (d + 2))) u held.2 ∙ l.runs);
          known = record { keeps = keeps_then d s u l.end all l.keeps; holds = subst (λ q. Holds l.end d q) (sym (added is)) l.holds };
        }
      where
        added : summed f i ≡ Ok a → summed f (suc i) ≡ (f (pos i) >>= (λ z. checked (a +ℤ z)))
        added e = rw e refl

    -- the whole loop
    loop_leaves : Holds s d (Ok (pos 0)) → Leaves tables (for_each (d + 1) (pos 0) (pos n) (stmts body) ∷ []) d s (summed f n)
    loop_leaves none =
        let all = loop tables (d + 1) n (stmts body) (Turn s) (λ i t p. rw p.keeps.size (omega (arith, room))) (λ i t below p. one_more i t (summed f i) below p.keeps refl p.holds) s (record { keeps = keeps_all d s; holds = none }) in
        let u : State = all.known.0 in
        let last : Turn s n all.end = subst (λ t. Turn s n t) (sym all.known.1) (record {
          keeps = keeps_then d s u (put (d + 1) (pos n) u) all.known.2.keeps (put_keeps d (d + 1) (pos n) u (omega arith));
          holds = holds_put (summed f n) d (d + 1) (pos n) u (omega arith) some all.known.2.holds;
        }) in
        record { end = all.end; runs = ended tables (run tables (for_each (d + 1) (pos 0) (pos n) (stmts body)) s) ∙ all.runs; keeps = last.keeps; holds = last.holds }

  pub series_leaves : (s : State) → d + 2 < length s.vars → IsSound s → TermLeaves s → Leaves tables (series d n term) d s (summed f n)
  series_leaves s room sound leaves =
      let t : State = put d (pos 0) s in
      let kept : Keeps d s t = put_keeps d d (pos 0) s (omega arith) in
      set_first tables d nought (pos 0) (for_each (d + 1) (pos 0) (pos n) (stmts body) ∷ []) d s (summed f n) refl (omega (arith, room)) (omega arith)
      (loop_leaves t (rw (length-set s.vars d (pos 0)) room) (λ i u below k. leaves i u below (keeps_then d s t u kept k))
      (put_there d (pos 0) s (omega (arith, room)), refl, put_other d 0 (pos 0) s (λ e. omega (arith, e, some)) ∙ sound))
