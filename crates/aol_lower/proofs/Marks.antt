-- What the search for the first fault among the inputs leaves.
use Rattle.std.specs.Prelude.{◌≡◌, ℕ, zero, suc, ◌+◌, ◌<◌, ◌≤◌, ◌^◌, ℤ, pos, negsuc, ◌-ℤ◌, Bool, true, false, List, [], ◌∷◌, ◌++◌, take, length, slice_get, Option, Some, option_and_then, if◌then◌else◌}
use Rattle.std.proofs.Common.{refl, sym, ap, subst, arith, ◌∙◌}
use Rattle.std.proofs.Math.Dec.{leb-zero}
use Rattle.std.proofs.lemmas.List.{length-set}
use Rattle.aol_expr_tree.specs.Meaning.{nth_number}
use Rattle.aol_csyn.specs.declared.program.COp.TheVariants.{Eq as Equal, Le as AtMost}
use Rattle.aol_csyn.specs.Tree.{Expr, num as number, var as variable, cell_f, bin as between, Stmt, stmts, no_stmts, set_var, for_each}
use Rattle.aol_csyn.specs.Meaning.{State, value, truth, is_zero, table_entry, run, run_all}
use Rattle.aol_lower.specs.declared.reads.Reads.{Reads}
use Rattle.aol_lower.specs.Lowered.{nought, either, at_most, entry_at}
use Rattle.aol_lower.specs.Ports.{first_mark, IsMarkAt, AreMarked, marked, first_fault, LeavesMark}
use Rattle.std.proofs.Math.Dec.{eqb-suc-zero}
use Rattle.std.proofs.lemmas.Bool.{eqb-true}
use Rattle.std.proofs.lemmas.Int.{ints}
use Rattle.aol_lower.specs.Effect.{Keeps}
use Rattle.aol_lower.proofs.Elements.{entry_value}
use Rattle.aol_lower.proofs.Loops.{Reached, loop}
use Rattle.aol_lower.proofs.Steps.{put, put_keeps, put_runs, put_there, put_other, keeps_all, keeps_less, keeps_then, set_runs, between_is, ended}

-- ---- the first of marks

none_or_own : (z : ℤ) → (if is_zero z then pos 0 else z) ≡ z
none_or_own (pos zero) = refl
none_or_own (pos (suc n)) = let some : is_zero (pos (suc n)) ≡ false = eqb-suc-zero n in rw some refl
none_or_own (negsuc n) = refl

zero_is : (z : ℤ) → is_zero z ≡ true → z ≡ pos 0
zero_is (pos n) h = ap pos (eqb-true n 0 h)
zero_is (negsuc n) h = absurd (cc)

less_nothing : (z : ℤ) → z -ℤ pos 0 ≡ z
less_nothing z = omega (arith, ints)

-- one more
mark_more : (zs : List ℤ) (i : ℕ) → i < length zs → first_mark (take (suc i) zs) ≡ (if is_zero (first_mark (take i zs)) then nth_number zs i else first_mark (take i zs))
mark_more [] i h = absurd (omega arith)
mark_more (z ∷ zs) zero h = none_or_own z
mark_more (z ∷ zs) (suc i) h = by_test (mark_more zs i (omega (arith, h))) (is_zero z) refl
  where
    by_test : first_mark (take (suc i) zs) ≡ (if is_zero (first_mark (take i zs)) then nth_number zs i else first_mark (take i zs))
        → (t : Bool) → is_zero z ≡ t → (if t then first_mark (take (suc i) zs) else z) ≡ (if is_zero (if t then first_mark (take i zs) else z) then nth_number zs i else (if t then first_mark (take i zs) else z))
    by_test more true e = more
    by_test more false e = rw e refl

take_whole : (zs : List ℤ) → take (length zs) zs ≡ zs
take_whole [] = refl
take_whole (z ∷ zs) = ap (λ ns. z ∷ ns) (take_whole zs)

-- ---- one read

module _ (tables : List (List ℤ)) (reads : Reads) where
  first_runs : (test : Expr) (first second : List Stmt) (s t : State) → value tables s test ≡ Some (pos 1) → run_all tables (stmts first) s ≡ Some t → run_all tables (stmts (either test first second)) s ≡ Some t
  first_runs test first second s t is runs = rw is (ended tables (run_all tables (stmts first) s) ∙ runs)

  second_runs : (test : Expr) (first second : List Stmt) (s t : State) → value tables s test ≡ Some (pos 0) → run_all tables (stmts second) s ≡ Some t → run_all tables (stmts (either test first second)) s ≡ Some t
  second_runs test first second s t is runs = rw is (ended tables (run_all tables (stmts second) s) ∙ runs)

  record Marked (d : ℕ) (s t : State) (z : ℤ) : Type 0 where
    keeps : Keeps d s t
    fault : slice_get t.vars 0 ≡ slice_get s.vars 0
    there : slice_get t.vars d ≡ Some z

  -- by its entry
  one_read : (d k : ℕ) (u : State) (e z : ℤ) → 0 < d → d < length u.vars → value tables u (entry_at reads (pos 0) k) ≡ Some e → IsMarkAt u.f e z → slice_get u.vars d ≡ Some (pos 0)
      → Reached (λ t. Marked d u t z) (run_all tables (stmts (marked reads k d)) u)
  one_read d k u (pos c) z some inside is at none =
      let entry = entry_at reads (pos 0) k in
      record {
        end = put d z u;
        runs = first_runs (at_most nought entry) (set_var d (cell_f entry) ∷ []) [] u (put d z u) (between_is tables AtMost nought entry (pos 0) (pos c) u refl is ∙ ap (λ t. Some (truth t)) (leb-zero c))
            (ap (option_and_then (run_all tables no_stmts)) (set_runs tables d (cell_f entry) z u (rw is at_cell) inside));
        known = record { keeps = put_keeps d d z u (omega arith); fault = put_other d 0 z u (λ e. omega (arith, e, some)); there = put_there d z u inside };
      }
    where
      at_cell : slice_get u.f c ≡ Some z
      at_cell = at
  one_read d k u (negsuc j) z some inside is at none =
      let entry = entry_at reads (pos 0) k in
      record {
        end = u;
        runs = second_runs (at_most nought entry) (set_var d (cell_f entry) ∷ []) [] u u (between_is tables AtMost nought entry (pos 0) (negsuc j) u refl is) refl;
        known = record { keeps = keeps_all d u; fault = refl; there = none ∙ ap (λ n. Some n) (sym no_mark) };
      }
    where
      no_mark : z ≡ pos 0
      no_mark = at

  -- ---- all reads

  module _ (d : ℕ) (some : 1 < d) (s : State) (room : d + 1 < length s.vars) (marks : List ℤ) (a : AreMarked tables reads s marks) where
    abbrev body : List Stmt
    body = either (between Equal (variable d) nought) (marked reads (d + 1) d) []

    abbrev so_far : ℕ → ℤ
    so_far i = first_mark (take i marks)

    -- a variable behind it changes
    put_behind : (n : ℕ) (t : State) → Marked d s t (so_far n) → Marked d s (put (d + 1) (pos n) t) (so_far n)
    put_behind n t p = record {
      keeps = keeps_then d s t (put (d + 1) (pos n) t) p.keeps (put_keeps d (d + 1) (pos n) t (omega arith));
      fault = put_other (d + 1) 0 (pos n) t (λ e. omega (arith, e)) ∙ p.fault;
      there = put_other (d + 1) d (pos n) t (λ e. omega (arith, e)) ∙ p.there;
    }

    -- before a turn's body
    record Before (i : ℕ) (u : State) : Type 0 where
      known : Marked d s u (so_far i)
      index : slice_get u.vars (d + 1) ≡ Some (pos i)

    test_is : (i : ℕ) (u : State) → Before i u → value tables u (between Equal (variable d) nought) ≡ Some (truth (is_zero (so_far i)))
    test_is i u h = between_is tables Equal (variable d) nought (so_far i) (pos 0) u h.known.there refl ∙ ap (λ z. Some (truth (is_zero z))) (less_nothing (so_far i))

    -- there was a mark
    stays : (i : ℕ) (u : State) → i < length marks → is_zero (so_far i) ≡ false → Before i u → Reached (λ e. Marked d s e (so_far (suc i))) (run_all tables (stmts body) u)
    stays i u below is h =
        let same : so_far (suc i) ≡ so_far i = mark_more marks i below ∙ ap (λ t. if t then nth_number marks i else so_far i) is in
        record {
          end = u;
          runs = second_runs (between Equal (variable d) nought) (marked reads (d + 1) d) [] u u (test_is i u h ∙ ap (λ t. Some (truth t)) is) refl;
          known = record { keeps = h.known.keeps; fault = h.known.fault; there = h.known.there ∙ ap (λ n. Some n) (sym same) };
        }

    -- there was none
    looks : (i : ℕ) (u : State) → i < length marks → is_zero (so_far i) ≡ true → Before i u → Reached (λ e. Marked d s e (so_far (suc i))) (run_all tables (stmts body) u)
    looks i u below is h =
        let same : so_far (suc i) ≡ nth_number marks i = mark_more marks i below ∙ ap (λ t. if t then nth_number marks i else so_far i) is in
        let none : slice_get u.vars d ≡ Some (pos 0) = h.known.there ∙ ap (λ n. Some n) (zero_is (so_far i) is) in
        let read = a.each i below in
        let place : slice_get u.vars 1 ≡ Some (pos a.from) = h.known.keeps.below 1 (omega arith) some ∙ a.from_is in
        let at : 0 + i ≡ i = omega arith in
        let there : table_entry tables reads.entries (pos (a.from + (0 + i))) ≡ Some read.entry = rw at read.there in
        let e : value tables u (entry_at reads (pos 0) (d + 1)) ≡ Some read.entry
        = entry_value tables reads u a.from 0 (d + 1) i read.entry place h.index (omega (arith, below, a.within)) there in
        let l = one_read d (d + 1) u read.entry (nth_number marks i) (omega (arith, some)) (rw h.known.keeps.size (omega (arith, room))) e (subst (λ f. IsMarkAt f read.entry (nth_number marks i)) (sym h.known.keeps.f) read.leads) none in
        record {
          end = l.end;
          runs = first_runs (between Equal (variable d) nought) (marked reads (d + 1) d) [] u l.end (test_is i u h ∙ ap (λ t. Some (truth t)) is) l.runs;
          known = record { keeps = keeps_then d s u l.end h.known.keeps l.known.keeps; fault = l.known.fault ∙ h.known.fault; there = l.known.there ∙ ap (λ n. Some n) (sym same) };
        }

    one : (b : Bool) (i : ℕ) (u : State) → i < length marks → is_zero (so_far i) ≡ b → Before i u → Reached (λ e. Marked d s e (so_far (suc i))) (run_all tables (stmts body) u)
    one true i u below is h = looks i u below is h
    one false i u below is h = stays i u below is h

    turn : (i : ℕ) (t : State) → i < length marks → Marked d s t (so_far i) → Reached (λ e. Marked d s e (so_far (suc i))) (run_all tables (stmts body) (put (d + 1) (pos i) t))
    turn i t below p =
        let inside : d + 1 < length t.vars = rw p.keeps.size room in
        one (is_zero (so_far i)) i (put (d + 1) (pos i) t) below refl (record {
          known = put_behind i t p;
          index = put_there (d + 1) (pos i) t inside;
        })

    pub mark_leaves : LeavesMark tables (first_fault reads (length marks) d) d s (first_mark marks)
    mark_leaves =
        let n : ℕ = length marks in
        let t : State = put d (pos 0) s in
        let begin : Marked d s t (so_far 0) = record { keeps = put_keeps d d (pos 0) s (omega arith); fault = put_other d 0 (pos 0) s (λ e. omega (arith, e, some)); there = put_there d (pos 0) s (omega (arith, room)) } in
        let all = loop tables (d + 1) n (stmts body) (λ i u. Marked d s u (so_far i)) (λ i u p. rw p.keeps.size room) turn t begin in
        let u : State = all.known.0 in
        let last : Marked d s all.end (so_far n) = subst (λ e. Marked d s e (so_far n)) (sym all.known.1) (put_behind n u all.known.2) in
        record {
          end = all.end;
          runs = ap (option_and_then (run_all tables (stmts (for_each (d + 1) (pos 0) (pos n) (stmts body) ∷ [])))) (set_runs tables d nought (pos 0) s refl (omega (arith, room)))
              ∙ (ended tables (run tables (for_each (d + 1) (pos 0) (pos n) (stmts body)) t) ∙ all.runs);
          keeps = last.keeps;
          fault = last.fault;
          there = last.there ∙ ap (λ zs. Some (first_mark zs)) (take_whole marks);
        }
