-- What the tests of widths leave.
use Rattle.std.specs.Prelude.{◌≡◌, ℕ, zero, suc, ◌+◌, ◌*◌, ◌<◌, ◌≤◌, ◌^◌, ◌-◌, ℤ, pos, negsuc, int_le, nat_lt, Bool, true, false, ◌&&◌, List, [], ◌∷◌, ◌++◌, take, drop, length, slice_get, Option, Some, None, option_and_then, Result, Ok, Err, if◌then◌else◌}
use Rattle.std.specs.List.{list_all}
use Rattle.std.proofs.Common.{refl, sym, ap, subst, arith, ◌∙◌, length-drop}
use Rattle.std.proofs.lemmas.List.{drop-drop}
use Rattle.std.proofs.lemmas.Bool.{lt-ltb, ltb-true, le-leb, leb-true}
use Rattle.aol_shape.specs.Numbers.{fits_64}
use Rattle.aol_shape.specs.Shape.{size}
use Rattle.aol_expr_tree.specs.declared.port.Port.{Port}
use Rattle.aol_expr_tree.specs.declared.value.Kind.{Kind}
use Rattle.aol_expr_tree.specs.declared.value.Kind.TheVariants.{Range}
use Rattle.aol_expr_tree.specs.declared.value.Width.{Width}
use Rattle.aol_expr_tree.specs.declared.value.Width.TheVariants.{Int16, Int32, Int64}
use Rattle.aol_expr_tree.specs.Meaning.{◌>>=◌, holds, is_within, nth_number}
use Rattle.aol_csyn.specs.declared.program.COp.TheVariants.{Le as AtMost}
use Rattle.aol_csyn.specs.Tree.{Expr, num as number, var as variable, Stmt, stmts, no_stmts, for_each}
use Rattle.aol_csyn.specs.Meaning.{State, value, truth, run, run_all}
use Rattle.aol_csyn.proofs.Parts.{parts_follow}
use Rattle.aol_lower.specs.declared.reads.Reads.{Reads}
use Rattle.aol_lower.specs.Effect.{kind_number, Keeps, IsSound, Holds, Leaves, IsRead, AreRead, patterns_size}
use Rattle.aol_lower.specs.Lowered.{fail, either, guard, at_most, then_do, fetched}
use Rattle.aol_lower.specs.Ports.{fitted, all_hold, Tests, within, width_test, each_test, numbers_test, ports_test}
use Rattle.aol_lower.proofs.Arithmetic.{same_test}
use Rattle.aol_lower.proofs.Elements.{number_behind, read_kept, fetched_leaves}
use Rattle.aol_lower.proofs.Loops.{Reached, loop}
use Rattle.aol_lower.proofs.Steps.{put, put_keeps, put_there, put_other, keeps_all, keeps_less, keeps_then, fail_leaves, nothing_leaves, between_is, first_leaves, second_leaves, guard_runs, guard_skips, follow_leaves, ended}

at_most_less : (m n : ℕ) → int_le (pos m) (pos n) ≡ nat_lt m (suc n)
at_most_less m n = same_test (int_le (pos m) (pos n)) (nat_lt m (suc n))
    (λ h. let le : m ≤ n = leb-true m n h in lt-ltb m (suc n) (omega (arith, le)))
    (λ h. let lt : m < suc n = ltb-true m (suc n) h in le-leb m n (omega (arith, lt)))

-- ---- one number

module _ (tables : List (List ℤ)) (d : ℕ) (s : State) (room : 0 < length s.vars) where
  -- at most a bound
  under : (z : ℤ) (n : ℕ) (t : Bool) → Holds s d (Ok z) → int_le z (pos n) ≡ t → Leaves tables (either (at_most (variable d) (number (pos n))) [] (fail Range ∷ [])) d s (if t then Ok z else Err Range)
  under z n true h is = first_leaves tables (at_most (variable d) (number (pos n))) [] (fail Range ∷ []) d s (Ok z)
      (between_is tables AtMost (variable d) (number (pos n)) z (pos n) s h.0 refl ∙ ap (λ b. Some (truth b)) is) (nothing_leaves tables d z s h)
  under z n false h is = second_leaves tables (at_most (variable d) (number (pos n))) [] (fail Range ∷ []) d s (Err Range)
      (between_is tables AtMost (variable d) (number (pos n)) z (pos n) s h.0 refl ∙ ap (λ b. Some (truth b)) is) (fail_leaves tables d Range s room)

  -- and at least one
  over : (z : ℤ) (n : ℕ) (t : Bool) (r : Result ℤ Kind) → Holds s d (Ok z) → int_le (negsuc n) z ≡ t → Leaves tables (either (at_most (variable d) (number (pos n))) [] (fail Range ∷ [])) d s r → Leaves tables (within (negsuc n) (pos n) d) d s (if t then r else Err Range)
  over z n true r h is l = first_leaves tables (at_most (number (negsuc n)) (variable d)) (either (at_most (variable d) (number (pos n))) [] (fail Range ∷ [])) (fail Range ∷ []) d s r
      (between_is tables AtMost (number (negsuc n)) (variable d) (negsuc n) z s refl h.0 ∙ ap (λ b. Some (truth b)) is) l
  over z n false r h is l = second_leaves tables (at_most (number (negsuc n)) (variable d)) (either (at_most (variable d) (number (pos n))) [] (fail Range ∷ [])) (fail Range ∷ []) d s (Err Range)
      (between_is tables AtMost (number (negsuc n)) (variable d) (negsuc n) z s refl h.0 ∙ ap (λ b. Some (truth b)) is) (fail_leaves tables d Range s room)

  within_leaves : (z : ℤ) (n : ℕ) → Holds s d (Ok z) → Leaves tables (within (negsuc n) (pos n) d) d s (if is_within (suc n) z then Ok z else Err Range)
  within_leaves (pos m) n h = over (pos m) n true (if nat_lt m (suc n) then Ok (pos m) else Err Range) h refl (under (pos m) n (nat_lt m (suc n)) h (at_most_less m n))
  within_leaves (negsuc m) n h = over (negsuc m) n (nat_lt m (suc n)) (Ok (negsuc m)) h (at_most_less m n) (under (negsuc m) n true h refl)

  pub width_leaves : (w : Width) (z : ℤ) → Holds s d (Ok z) → Leaves tables (width_test w d) d s (fitted w z)
  width_leaves Int16 z h = within_leaves z 32767 h
  width_leaves Int32 z h = within_leaves z 2147483647 h
  width_leaves Int64 z h = nothing_leaves tables d z s h

-- ---- numbers one after another

-- the first so many numbers behind a place are held
held_below : Width → List ℤ → ℕ → ℕ → Bool
held_below w nums start zero = true
held_below w nums start (suc i) = held_below w nums start i && holds w (nth_number nums (start + i))

-- the number of the fault where it doesn't hold
abbrev mark : Bool → ℕ
mark ok = if ok then 0 else kind_number Range

both_same : (a b c : Bool) → a && (b && c) ≡ (a && b) && c
both_same true b c = refl
both_same false b c = refl

no_more : (b : Bool) → b && true ≡ b
no_more true = refl
no_more false = refl

-- one more number
list_more : (w : Width) (nums : List ℤ) (i : ℕ) → i < length nums → list_all (holds w) (take (suc i) nums) ≡ list_all (holds w) (take i nums) && holds w (nth_number nums i)
list_more w [] i h = absurd (omega arith)
list_more w (z ∷ zs) zero h = no_more (holds w z)
list_more w (z ∷ zs) (suc i) h = ap (λ b. holds w z && b) (list_more w zs i (omega (arith, h))) ∙ both_same (holds w z) (list_all (holds w) (take i zs)) (holds w (nth_number zs i))

fault_of : (b : Bool) (z : ℤ) (d : ℕ) (t : State) → Holds t d (if b then Ok z else Err Range) → slice_get t.vars 0 ≡ Some (pos (mark b))
fault_of true z d t h = h.2
fault_of false z d t h = h

module _ (tables : List (List ℤ)) (reads : Reads) (nums : List ℤ) (fits : (k : ℕ) → fits_64 (nth_number nums k) ≡ true) (d : ℕ) (some : 1 < d) where
  module _ (w : Width) (start n : ℕ) (s : State) (a : AreRead tables reads s nums) (whole : start + n ≤ length nums) (room : d + 1 < length s.vars) (b : Bool) where
    abbrev fetch : List Stmt
    fetch = fetched reads (pos start) (d + 1) d

    abbrev body : List Stmt
    body = guard (then_do fetch (width_test w d)) ∷ []

    -- so far
    abbrev held : ℕ → Bool
    held i = b && list_all (holds w) (take i (drop start nums))

    held_more : (i : ℕ) → i < n → held (suc i) ≡ held i && holds w (nth_number nums (start + i))
    held_more i h =
        let rest = drop start nums in
        ap (λ t. b && t) (list_more w rest i (omega (arith, whole, h, length-drop start nums)) ∙ ap (λ z. list_all (holds w) (take i rest) && holds w z) (number_behind nums start i))
        ∙ both_same b (list_all (holds w) (take i rest)) (holds w (nth_number nums (start + i)))

    record Tested (i : ℕ) (t : State) : Type 0 where
      keeps : Keeps d s t
      fault : slice_get t.vars 0 ≡ Some (pos (mark (held i)))

    marked_by : (x y : Bool) (r : Option ℤ) → r ≡ Some (pos (mark x)) → x ≡ y → r ≡ Some (pos (mark y))
    marked_by x y r is same = is ∙ ap (λ t. Some (pos (mark t))) same

    one : (c : Bool) (i : ℕ) (t : State) → held i ≡ c → i < n → Tested i t → Reached (Tested (suc i)) (run_all tables (stmts body) (put (d + 1) (pos i) t))
    one false i t is below p =
        let u : State = put (d + 1) (pos i) t in
        let fault : slice_get u.vars 0 ≡ Some (pos (kind_number Range)) = put_other (d + 1) 0 (pos i) t (λ e. omega (arith, e)) ∙ marked_by (held i) false (slice_get t.vars 0) p.fault is in
        let more : held (suc i) ≡ false = held_more i below ∙ ap (λ t. t && holds w (nth_number nums (start + i))) is in
        record {
          end = u;
          runs = ended tables (run tables (guard (then_do fetch (width_test w d))) u) ∙ guard_skips tables (then_do fetch (width_test w d)) u Range fault;
          known = record { keeps = keeps_then d s t u p.keeps (put_keeps d (d + 1) (pos i) t (omega arith)); fault = marked_by false (held (suc i)) (slice_get u.vars 0) fault (sym more) };
        }
    one true i t is below p =
        let u : State = put (d + 1) (pos i) t in
        let kept : Keeps d s u = keeps_then d s t u p.keeps (put_keeps d (d + 1) (pos i) t (omega arith)) in
        let inside : d + 1 < length t.vars = rw p.keeps.size room in
        let sound : IsSound u = put_other (d + 1) 0 (pos i) t (λ e. omega (arith, e)) ∙ marked_by (held i) true (slice_get t.vars 0) p.fault is in
        let z : ℤ = nth_number nums (start + i) in
        let more : held (suc i) ≡ holds w z = held_more i below ∙ ap (λ t. t && holds w z) is in
        let l : Leaves tables (then_do fetch (width_test w d)) d u (fitted w z)
        = follow_leaves tables fetch (width_test w d) d d u (Ok z) (fitted w) (omega arith)
        (fetched_leaves tables reads nums fits d start (d + 1) some u (read_kept tables reads nums d s u some kept a) i (omega (arith, whole, below)) (put_there (d + 1) (pos i) t inside) (rw kept.size (omega (arith, room))) sound)
        (λ y v e k h. width_leaves tables d v (rw (k.size, kept.size) (omega (arith, room))) w y h) in
        record {
          end = l.end;
          runs = ended tables (run tables (guard (then_do fetch (width_test w d))) u) ∙ (guard_runs tables (then_do fetch (width_test w d)) u sound ∙ l.runs);
          known = record { keeps = keeps_then d s u l.end kept l.keeps; fault = marked_by (holds w z) (held (suc i)) (slice_get l.end.vars 0) (fault_of (holds w z) z d l.end l.holds) (sym more) };
        }

    all_tested : slice_get s.vars 0 ≡ Some (pos (mark b)) → Tests tables (each_test reads w (pos start) n d) d s (held n)
    all_tested first =
        let all = loop tables (d + 1) n (stmts body) Tested (λ i t p. rw p.keeps.size room) (λ i t below p. one (held i) i t refl below p) s
        (record { keeps = keeps_all d s; fault = marked_by b (held 0) (slice_get s.vars 0) first (sym (no_more b)) }) in
        let u : State = all.known.0 in
        record {
          end = all.end;
          runs = ended tables (run tables (for_each (d + 1) (pos 0) (pos n) (stmts body)) s) ∙ all.runs;
          keeps = subst (λ t. Keeps d s t) (sym all.known.1) (keeps_then d s u (put (d + 1) (pos n) u) all.known.2.keeps (put_keeps d (d + 1) (pos n) u (omega arith)));
          fault = ap (λ (t : State). slice_get t.vars 0) all.known.1 ∙ (put_other (d + 1) 0 (pos n) u (λ e. omega (arith, e)) ∙ all.known.2.fault);
        }

  -- every number has 64 bits
  all_wide : (zs : List ℤ) → list_all (holds Int64) zs ≡ true
  all_wide [] = refl
  all_wide (z ∷ zs) = all_wide zs

  nothing_tests : (s : State) (b : Bool) → slice_get s.vars 0 ≡ Some (pos (mark b)) → Tests tables [] d s b
  nothing_tests s b is = record { end = s; runs = refl; keeps = keeps_all d s; fault = is }

  numbers_leave : (w : Width) (start n : ℕ) (s : State) → AreRead tables reads s nums → start + n ≤ length nums → d + 1 < length s.vars → (b : Bool) → slice_get s.vars 0 ≡ Some (pos (mark b))
      → Tests tables (numbers_test reads w (pos start) n d) d s (b && list_all (holds w) (take n (drop start nums)))
  numbers_leave Int16 start n s a whole room b is = all_tested Int16 start n s a whole room b is
  numbers_leave Int32 start n s a whole room b is = all_tested Int32 start n s a whole room b is
  numbers_leave Int64 start n s a whole room b is = nothing_tests s (b && list_all (holds Int64) (take n (drop start nums))) (is ∙ ap (λ t. Some (pos (mark t))) (sym (ap (λ t. b && t) (all_wide (take n (drop start nums))) ∙ no_more b)))

  -- one test and then another
  tests_then : (first rest : List Stmt) (s : State) (a c : Bool) → Tests tables first d s a → ((t : State) → Keeps d s t → slice_get t.vars 0 ≡ Some (pos (mark a)) → Tests tables rest d t c) → Tests tables (first ++ rest) d s c
  tests_then first rest s a c l next =
      let m = next l.end l.keeps l.fault in
      record {
        end = m.end;
        runs = parts_follow tables first rest s ∙ (ap (option_and_then (run_all tables (stmts rest))) l.runs ∙ m.runs);
        keeps = keeps_then d s l.end m.end l.keeps m.keeps;
        fault = m.fault;
      }

  pub ports_leave : (ps : List Port) (ws : List Width) (start : ℕ) (s : State) → AreRead tables reads s nums → start + patterns_size ps ≤ length nums → d + 1 < length s.vars → (b : Bool) → slice_get s.vars 0 ≡ Some (pos (mark b))
      → Tests tables (ports_test reads ps ws (pos start) d) d s (b && all_hold ps ws (drop start nums))
  ports_leave [] ws start s a whole room b is = nothing_tests s (b && true) (is ∙ ap (λ t. Some (pos (mark t))) (sym (no_more b)))
  ports_leave (p ∷ ps) [] start s a whole room b is = nothing_tests s (b && true) (is ∙ ap (λ t. Some (pos (mark t))) (sym (no_more b)))
  ports_leave (p ∷ ps) (w ∷ ws) start s a whole room b is =
      let n : ℕ = size p.shape in
      let own : Bool = list_all (holds w) (take n (drop start nums)) in
      let further : Bool = all_hold ps ws (drop (start + n) nums) in
      let behind : drop (start + n) nums ≡ drop n (drop start nums) = sym (drop-drop n start nums) in
      subst (λ r. Tests tables (ports_test reads (p ∷ ps) (w ∷ ws) (pos start) d) d s r) (sym (both_same b own further) ∙ ap (λ ns. b && (own && all_hold ps ws ns)) behind)
      (tests_then (numbers_test reads w (pos start) n d) (ports_test reads ps ws (pos (start + n)) d) s (b && own) ((b && own) && further) (numbers_leave w start n s a (omega (arith, whole)) room b is)
      (λ t k f. ports_leave ps ws (start + n) t (read_kept tables reads nums d s t some k a) (omega (arith, whole)) (rw k.size room) (b && own) f))
