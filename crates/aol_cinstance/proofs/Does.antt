-- What statements do: the state that they end in, and the places that they put.
use Rattle.std.specs.Prelude.{◌≡◌, ℕ, zero, suc, ◌+◌, ◌-◌, ◌<◌, ℤ, pos, ◌+ℤ◌, Bool, true, false, ◌&&◌, List, [], ◌∷◌, ◌++◌, length, slice_set, Option, Some, None, option_and_then, if◌then◌else◌}
use Rattle.std.proofs.Common.{refl, sym, ap, subst, arith, ◌∙◌, add-one, append_assoc}
use Rattle.std.proofs.lemmas.List.{append-nil}
use Rattle.std.proofs.lemmas.Bool.{lt-ltb}
use Rattle.aol_csyn.specs.Tree.{Expr, Stmt, set_var, put_v, put_f, if_else, for_each, Stmts, stmts, no_stmts, stmt_and}
use Rattle.aol_csyn.specs.Meaning.{State, value, is_zero, with_v, with_f, with_var, turns, turn_count, run, run_all}
use Rattle.aol_csyn.specs.Puts.{Cell, of_v, of_f, cell_at, from_state, turn_puts, chosen, puts, all_puts}
use Rattle.aol_csyn.proofs.Parts.{parts_follow}
use Rattle.aol_lower.specs.Lowered.{either}
use Rattle.aol_lower.specs.Quiet.{is_quiet, all_quiet}
use Rattle.aol_lower.proofs.Steps.{put, put_runs, set_runs, ended}

-- they end in this state, and put these places
pub record Does (tables : List (List ℤ)) (body : List Stmt) (s t : State) (cs : List Cell) : Type 0 where
  pub runs : run_all tables (stmts body) s ≡ Some t
  pub puts : all_puts tables (stmts body) s ≡ cs

module _ (tables : List (List ℤ)) where
  -- ---- one after another

  by_end : (p : List Cell) (r : Option State) (f g h : State → List Cell) (k : State → Option State) → ((u : State) → f u ≡ g u ++ from_state h (k u))
      → p ++ from_state f r ≡ (p ++ from_state g r) ++ from_state h (option_and_then k r)
  by_end p None f g h k e = sym (append-nil (p ++ []))
  by_end p (Some u) f g h k e = ap (λ x. p ++ x) (e u) ∙ sym (append_assoc p (g u) (from_state h (k u)))

  puts_follow : (a b : List Stmt) (s : State) → all_puts tables (stmts (a ++ b)) s ≡ all_puts tables (stmts a) s ++ from_state (all_puts tables (stmts b)) (run_all tables (stmts a) s)
  puts_follow [] b s = refl
  puts_follow (st ∷ a) b s =
      by_end (puts tables st s) (run tables st s) (all_puts tables (stmts (a ++ b))) (all_puts tables (stmts a)) (all_puts tables (stmts b)) (run_all tables (stmts a)) (λ u. puts_follow a b u)

  pub does_then : (a b : List Stmt) (s t u : State) (xs ys : List Cell) → Does tables a s t xs → Does tables b t u ys → Does tables (a ++ b) s u (xs ++ ys)
  does_then a b s t u xs ys d e = record {
    runs = parts_follow tables a b s ∙ (ap (option_and_then (run_all tables (stmts b))) d.runs ∙ e.runs);
    puts = puts_follow a b s
        ∙ (ap (λ r. all_puts tables (stmts a) s ++ from_state (all_puts tables (stmts b)) r) d.runs ∙ (ap (λ x. x ++ all_puts tables (stmts b) t) d.puts ∙ ap (λ y. xs ++ y) e.puts));
  }

  pub does_nothing : (s : State) → Does tables [] s s []
  does_nothing s = record { runs = refl; puts = refl }

  -- ---- single statements

  end_puts : (r : Option State) → from_state (all_puts tables no_stmts) r ≡ []
  end_puts None = refl
  end_puts (Some u) = refl

  single_puts : (p : List Cell) (r : Option State) → p ++ from_state (all_puts tables no_stmts) r ≡ p
  single_puts p r = ap (λ x. p ++ x) (end_puts r) ∙ append-nil p

  one : (st : Stmt) (s t : State) (cs : List Cell) → run tables st s ≡ Some t → puts tables st s ≡ cs → Does tables (st ∷ []) s t cs
  one st s t cs runs puts_are = record {
    runs = ended tables (run tables st s) ∙ runs;
    puts = single_puts (puts tables st s) (run tables st s) ∙ puts_are;
  }

  pub does_set : (k : ℕ) (e : Expr) (z : ℤ) (s : State) → value tables s e ≡ Some z → k < length s.vars → Does tables (set_var k e ∷ []) s (put k z s) []
  does_set k e z s is inside = one (set_var k e) s (put k z s) [] (set_runs tables k e z s is inside) refl

  pub does_put_v : (at e : Expr) (c : ℕ) (z : ℤ) (s : State) → value tables s at ≡ Some (pos c) → value tables s e ≡ Some z → c < length s.v
      → Does tables (put_v at e ∷ []) s (with_v s (slice_set s.v c z)) (of_v c ∷ [])
  does_put_v at e c z s there is inside = one (put_v at e) s (with_v s (slice_set s.v c z)) (of_v c ∷ []) (rw (there, is, lt-ltb c (length s.v) inside) refl) (ap (cell_at of_v) there)

  pub does_put_f : (at e : Expr) (c : ℕ) (z : ℤ) (s : State) → value tables s at ≡ Some (pos c) → value tables s e ≡ Some z → c < length s.f
      → Does tables (put_f at e ∷ []) s (with_f s (slice_set s.f c z)) (of_f c ∷ [])
  does_put_f at e c z s there is inside = one (put_f at e) s (with_f s (slice_set s.f c z)) (of_f c ∷ []) (rw (there, is, lt-ltb c (length s.f) inside) refl) (ap (cell_at of_f) there)

  -- ---- one of two

  pub does_first : (test : Expr) (first second : List Stmt) (z : ℤ) (s t : State) (cs : List Cell) → value tables s test ≡ Some z → is_zero z ≡ false → Does tables first s t cs → Does tables (either test first second) s t cs
  does_first test first second z s t cs is some d = one (if_else test (stmts first) (stmts second)) s t cs (rw (is, some) d.runs)
      (ap (λ o. chosen o (all_puts tables (stmts first) s) (all_puts tables (stmts second) s)) is
      ∙ (ap (λ b. if b then all_puts tables (stmts second) s else all_puts tables (stmts first) s) some ∙ d.puts))

  pub does_second : (test : Expr) (first second : List Stmt) (z : ℤ) (s t : State) (cs : List Cell) → value tables s test ≡ Some z → is_zero z ≡ true → Does tables second s t cs → Does tables (either test first second) s t cs
  does_second test first second z s t cs is none d = one (if_else test (stmts first) (stmts second)) s t cs (rw (is, none) d.runs)
      (ap (λ o. chosen o (all_puts tables (stmts first) s) (all_puts tables (stmts second) s)) is
      ∙ (ap (λ b. if b then all_puts tables (stmts second) s else all_puts tables (stmts first) s) none ∙ d.puts))

  -- ---- statements that put nothing

  from_none : (f : State → List Cell) → ((t : State) → f t ≡ []) → (r : Option State) → from_state f r ≡ []
  from_none f h None = refl
  from_none f h (Some t) = h t

  chosen_none : (o : Option ℤ) (x y : List Cell) → x ≡ [] → y ≡ [] → chosen o x y ≡ []
  chosen_none None x y h g = refl
  chosen_none (Some z) x y h g = elim (is_zero z) as (λ b. (if b then y else x) ≡ []) [ true ↦ g | false ↦ h ]

  turn_none : (n k : ℕ) (z : ℤ) (body : State → Option State) (f : State → List Cell) → ((t : State) → f t ≡ []) → (s : State) → turn_puts n k z body f s ≡ []
  turn_none zero k z body f h s = refl
  turn_none (suc n) k z body f h s =
      from_none (λ t. f t ++ from_state (turn_puts n k (z +ℤ pos 1) body f) (body t))
      (λ t. ap (λ x. x ++ from_state (turn_puts n k (z +ℤ pos 1) body f) (body t)) (h t) ∙ from_none (turn_puts n k (z +ℤ pos 1) body f) (turn_none n k (z +ℤ pos 1) body f h) (body t)) (with_var k z s)

  left_true : (a b : Bool) → a && b ≡ true → a ≡ true
  left_true true b h = refl
  left_true false b h = absurd (cc)

  right_true : (a b : Bool) → a && b ≡ true → b ≡ true
  right_true true b h = h
  right_true false b h = absurd (cc)

  mutual
    quiet_one : (st : Stmt) → is_quiet st ≡ true → (s : State) → puts tables st s ≡ []
    quiet_one (set_var k e) h s = refl
    quiet_one (put_v at e) h s = absurd (cc)
    quiet_one (put_f at e) h s = absurd (cc)
    quiet_one (if_else e first second) h s =
        chosen_none (value tables s e) (all_puts tables first s) (all_puts tables second s) (quiet_all first (left_true (all_quiet first) (all_quiet second) h) s)
        (quiet_all second (right_true (all_quiet first) (all_quiet second) h) s)
    quiet_one (for_each k a b body) h s = turn_none (turn_count a b) k a (run_all tables body) (all_puts tables body) (λ t. quiet_all body h t) s

    quiet_all : (body : Stmts) → all_quiet body ≡ true → (s : State) → all_puts tables body s ≡ []
    quiet_all no_stmts h s = refl
    quiet_all (stmt_and st rest) h s =
        ap (λ x. x ++ from_state (all_puts tables rest) (run tables st s)) (quiet_one st (left_true (is_quiet st) (all_quiet rest) h) s)
        ∙ from_none (all_puts tables rest) (λ t. quiet_all rest (right_true (is_quiet st) (all_quiet rest) h) t) (run tables st s)

  pub does_quietly : (body : List Stmt) (s t : State) → all_quiet (stmts body) ≡ true → run_all tables (stmts body) s ≡ Some t → Does tables body s t []
  does_quietly body s t quiet runs = record { runs = runs; puts = quiet_all (stmts body) quiet s }

  -- ---- loops

  -- one turn, and the places that all turns up to it put
  pub record Turn (body : List Stmt) (P : ℕ → State → Type 0) (so_far : ℕ → List Cell) (i : ℕ) (s : State) : Type 0 where
    pub end : State
    pub cs : List Cell
    pub does : Does tables body s end cs
    pub more : so_far i ++ cs ≡ so_far (suc i)
    pub known : P (suc i) end

  -- a whole loop, which leaves its variable at the second bound
  pub record Loop (k n : ℕ) (body : List Stmt) (P : ℕ → State → Type 0) (so_far : ℕ → List Cell) (s : State) : Type 0 where
    pub last : State
    pub cs : List Cell
    pub does : Does tables (for_each k (pos 0) (pos n) (stmts body) ∷ []) s (put k (pos n) last) cs
    pub more : so_far 0 ++ cs ≡ so_far n
    pub known : P n last

  module _ (k n : ℕ) (body : List Stmt) (P : ℕ → State → Type 0) (so_far : ℕ → List Cell) (room : (i : ℕ) (s : State) → P i s → k < length s.vars)
      (turn : (i : ℕ) (s : State) → i < n → P i s → Turn body P so_far i (put k (pos i) s)) where
    record Rest (m i : ℕ) (s : State) : Type 0 where
      last : State
      cs : List Cell
      runs : turns m k (pos i) (run_all tables (stmts body)) s ≡ Some last
      puts_are : turn_puts m k (pos i) (run_all tables (stmts body)) (all_puts tables (stmts body)) s ≡ cs
      more : so_far i ++ cs ≡ so_far n
      known : P n last

    rest_of : (m i : ℕ) (s : State) → i + m ≡ n → P i s → Rest m i s
    rest_of zero i s e p =
        let same : i ≡ n = omega (arith, e) in
        record { last = s; cs = []; runs = refl; puts_are = refl; more = append-nil (so_far i) ∙ ap so_far same; known = subst (λ j. P j s) same p }
    rest_of (suc m) i s e p =
        let u : State = put k (pos i) s in
        let first = turn i s (omega (arith, e)) p in
        let others = rest_of m (i + 1) first.end (omega (arith, e)) (subst (λ j. P j first.end) (sym (add-one i)) first.known) in
        let body_run = run_all tables (stmts body) in
        let body_puts = all_puts tables (stmts body) in
        record {
          last = others.last;
          cs = first.cs ++ others.cs;
          runs = ap (λ r. option_and_then (turns m k (pos i +ℤ pos 1) body_run) (option_and_then body_run r)) (put_runs k (pos i) s (room i s p))
              ∙ (ap (option_and_then (turns m k (pos i +ℤ pos 1) body_run)) first.does.runs ∙ others.runs);
          puts_are = ap (from_state (λ t. body_puts t ++ from_state (turn_puts m k (pos i +ℤ pos 1) body_run body_puts) (body_run t))) (put_runs k (pos i) s (room i s p))
              ∙ (ap (λ r. body_puts u ++ from_state (turn_puts m k (pos i +ℤ pos 1) body_run body_puts) r) first.does.runs
              ∙ (ap (λ x. x ++ turn_puts m k (pos i +ℤ pos 1) body_run body_puts first.end) first.does.puts ∙ ap (λ y. first.cs ++ y) others.puts_are));
          more = sym (append_assoc (so_far i) first.cs others.cs) ∙ (ap (λ x. x ++ others.cs) (first.more ∙ ap so_far (sym (add-one i))) ∙ others.more);
          known = others.known;
        }

    no_less : (m : ℕ) → m - 0 ≡ m
    no_less m = omega arith

    pub does_loop : (s : State) → P 0 s → Loop k n body P so_far s
    does_loop s p =
        let all = rest_of n 0 s (omega arith) p in
        let gap : turn_count (pos 0) (pos n) ≡ n = no_less n in
        let body_run = run_all tables (stmts body) in
        let body_puts = all_puts tables (stmts body) in
        record {
          last = all.last;
          cs = all.cs;
          does = one (for_each k (pos 0) (pos n) (stmts body)) s (put k (pos n) all.last) all.cs
              (ap (λ m. option_and_then (with_var k (pos n)) (turns m k (pos 0) body_run s)) gap
              ∙ (ap (option_and_then (with_var k (pos n))) all.runs ∙ put_runs k (pos n) all.last (room n all.last all.known)))
              (ap (λ m. turn_puts m k (pos 0) body_run body_puts s) gap ∙ all.puts_are);
          more = all.more;
          known = all.known;
        }
