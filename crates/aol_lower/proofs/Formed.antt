-- The statements of an expression are well formed and not deep.
use Rattle.std.specs.Prelude.{◌≡◌, ℕ, zero, suc, ◌+◌, ◌*◌, ◌<◌, ◌≤◌, ◌^◌, ◌-◌, ◌⊎◌, max, ℤ, pos, negsuc, int_le, Bool, true, false, ◌&&◌, ◌||◌, not, ◌==◌, nat_lt, List, [], ◌∷◌, ◌++◌, length, Option, Some, None, if◌then◌else◌}
use Rattle.std.specs.List.{AllByRecursion}
use Rattle.std.specs.Option.{IfSome}
use Rattle.std.proofs.Common.{refl, sym, ap, subst, arith, ◌∙◌}
use Rattle.std.proofs.Math.Dec.{leb-zero}
use Rattle.std.proofs.lemmas.Bool.{lt-ltb, ltb-true, eqb-true}
use Rattle.aol_shape.specs.Lists.{same}
use Rattle.aol_shape.specs.Numbers.{fits_64}
use Rattle.aol_shape.specs.Shape.{size, IsShape, IsEntry, max_rank}
use Rattle.aol_expr_tree.specs.declared.port.Port.{Port}
use Rattle.aol_expr_tree.specs.declared.op.ExprOp.{ExprOp}
use Rattle.aol_expr_tree.specs.declared.op.ExprOp.TheVariants.{Add, Sub, Mul, Div, Rem, Lt, Le, Eq, Min, Max}
use Rattle.aol_expr_tree.specs.declared.value.Kind.{Kind}
use Rattle.aol_expr_tree.specs.declared.value.Kind.TheVariants.{Overflow, Divide, Index, Range}
use Rattle.aol_expr_tree.specs.Tree.{Tree, num, index, var, read, bin, if_else, sum, Trees, no_trees, tree_and, tree_count, depth, depth_of}
use Rattle.aol_eval.specs.Resolved.{shape_of, start_of}
use Rattle.aol_csyn.specs.declared.program.COp.{COp}
use Rattle.aol_csyn.specs.declared.program.COp.TheVariants.{Add as Plus, Sub as Minus, Mul as Times, Div as Over, Rem as Rest, Lt as Below, Le as AtMost, Eq as Equal}
use Rattle.aol_csyn.specs.Tree.{Expr, num as number, var as variable, tab, cell_v, bin as between, Stmt, set_var, for_each, stmts, no_stmts}
use Rattle.aol_csyn.specs.Form.{expr_depth, expr_formed, stmts_depth, stmt_formed, stmts_formed, sets, any_sets}
use Rattle.aol_lower.specs.declared.reads.Reads.{Reads}
use Rattle.aol_lower.specs.Contract.{AreFormed}
use Rattle.aol_lower.specs.Effect.{kind_number, patterns_size, AreShapes}
use Rattle.aol_lower.specs.Lowered.{greatest, least, nought, fail, either, guard, assign, attempt, at_most, plus, minus, times, times_above, times_below, divided, operation, entry_at, fetched, inside, next_rank, ranked, element_in, Setting, bound_at, point_at, then_do, series, lowered, all_lowered}
use Rattle.aol_lower.specs.Quiet.{is_quiet, all_quiet}
use Rattle.aol_lower.specs.Small.{room, room_of, IsSmall, AreSmall}
use Rattle.aol_lower.proofs.Elements.{HasRoom, port_room}
use Rattle.aol_lower.proofs.Rooms.{count_fits, some_room}

not_equal : (a b : ℕ) → (a ≡ b → ⊥) → (a == b) ≡ false
not_equal a b h = none (a == b) (λ e. h (eqb-true a b e))
  where
    none : (t : Bool) → (t ≡ true → ⊥) → t ≡ false
    none true f = absurd (f refl)
    none false f = refl

both_true : (a b : Bool) → a ≡ true → b ≡ true → a && b ≡ true
both_true a b h k = rw (h, k) refl

both_false : (a b : Bool) → a ≡ false → b ≡ false → a || b ≡ false
both_false a b h k = rw (h, k) refl

or_nothing : (a : Bool) → a || false ≡ a
or_nothing true = refl
or_nothing false = refl

and_nothing : (a : Bool) → a && true ≡ a
and_nothing true = refl
and_nothing false = refl

module _ (vars tables : ℕ) where
  -- ---- expressions

  pub var_formed : (k : ℕ) → k < vars → expr_formed vars tables (variable k) ≡ true
  var_formed k h = lt-ltb k vars h

  pub between_formed : (op : COp) (a b : Expr) → expr_formed vars tables a ≡ true → expr_formed vars tables b ≡ true → expr_formed vars tables (between op a b) ≡ true
  between_formed op a b h k = both_true (expr_formed vars tables a) (expr_formed vars tables b) h k

  -- ---- statements

  append_formed : (xs ys : List Stmt) → stmts_formed vars tables (stmts xs) ≡ true → stmts_formed vars tables (stmts ys) ≡ true → stmts_formed vars tables (stmts (xs ++ ys)) ≡ true
  append_formed [] ys h k = k
  append_formed (x ∷ xs) ys h k =
      let a = stmt_formed vars tables x in let b = stmts_formed vars tables (stmts xs) in
      both_true a (stmts_formed vars tables (stmts (xs ++ ys))) (first a b h) (append_formed xs ys (second a b h) k)
    where
      first : (a b : Bool) → a && b ≡ true → a ≡ true
      first true b h = refl
      first false b h = absurd (cc)

      second : (a b : Bool) → a && b ≡ true → b ≡ true
      second true b h = h
      second false b h = absurd (cc)

  append_depth : (xs ys : List Stmt) (n : ℕ) → stmts_depth (stmts xs) ≤ n → stmts_depth (stmts ys) ≤ n → stmts_depth (stmts (xs ++ ys)) ≤ n
  append_depth [] ys n h k = k
  append_depth (x ∷ xs) ys n h k = let rest = append_depth xs ys n (omega (arith, h)) k in omega (arith, rest, h)

  append_sets : (k : ℕ) (xs ys : List Stmt) → any_sets k (stmts xs) ≡ false → any_sets k (stmts ys) ≡ false → any_sets k (stmts (xs ++ ys)) ≡ false
  append_sets k [] ys h g = g
  append_sets k (x ∷ xs) ys h g =
      let a = sets k x in let b = any_sets k (stmts xs) in
      both_false a (any_sets k (stmts (xs ++ ys))) (first a b h) (append_sets k xs ys (second a b h) g)
    where
      first : (a b : Bool) → a || b ≡ false → a ≡ false
      first true b h = absurd (cc)
      first false b h = refl

      second : (a b : Bool) → a || b ≡ false → b ≡ false
      second true b h = absurd (cc)
      second false b h = h

  append_quiet : (xs ys : List Stmt) → all_quiet (stmts xs) ≡ true → all_quiet (stmts ys) ≡ true → all_quiet (stmts (xs ++ ys)) ≡ true
  append_quiet [] ys h k = k
  append_quiet (x ∷ xs) ys h k =
      let a = is_quiet x in let b = all_quiet (stmts xs) in
      both_true a (all_quiet (stmts (xs ++ ys))) (first a b h) (append_quiet xs ys (second a b h) k)
    where
      first : (a b : Bool) → a && b ≡ true → a ≡ true
      first true b h = refl
      first false b h = absurd (cc)

      second : (a b : Bool) → a && b ≡ true → b ≡ true
      second true b h = h
      second false b h = absurd (cc)

  -- they are well formed, go at most so deep, set no variable of these, and put nothing
  pub record Shaped (n : ℕ) (Q : ℕ → Type 0) (body : List Stmt) : Type 0 where
    pub formed : stmts_formed vars tables (stmts body) ≡ true
    pub depth : stmts_depth (stmts body) ≤ n
    pub sets : (k : ℕ) → Q k → any_sets k (stmts body) ≡ false
    pub quiet : all_quiet (stmts body) ≡ true

  module _ (Q : ℕ → Type 0) (none : Q 0 → ⊥) where
    pub nothing_formed : (n : ℕ) → Shaped n Q []
    nothing_formed n = record { formed = refl; depth = omega arith; sets = λ k q. refl; quiet = refl }

    pub append : (n : ℕ) (xs ys : List Stmt) → Shaped n Q xs → Shaped n Q ys → Shaped n Q (xs ++ ys)
    append n xs ys h g = record {
      formed = append_formed xs ys h.formed g.formed;
      depth = append_depth xs ys n h.depth g.depth;
      sets = λ k q. append_sets k xs ys (h.sets k q) (g.sets k q);
      quiet = append_quiet xs ys h.quiet g.quiet;
    }

    pub deeper : (n m : ℕ) (body : List Stmt) → n ≤ m → Shaped n Q body → Shaped m Q body
    deeper n m body le h = record { formed = h.formed; depth = omega (arith, le, h.depth); sets = h.sets; quiet = h.quiet }

    pub set_formed : (n k : ℕ) (e : Expr) → k < vars → expr_formed vars tables e ≡ true → expr_depth e < n → (Q k → ⊥) → Shaped n Q (set_var k e ∷ [])
    set_formed n k e inside formed low own = record {
      formed = and_nothing (nat_lt k vars && expr_formed vars tables e) ∙ both_true (nat_lt k vars) (expr_formed vars tables e) (lt-ltb k vars inside) formed;
      depth = omega (arith, low);
      sets = λ j q. or_nothing (k == j) ∙ not_equal k j (λ e. own (subst Q (sym e) q));
      quiet = refl;
    }

    pub either_formed : (n : ℕ) (test : Expr) (first second : List Stmt) → expr_formed vars tables test ≡ true → expr_depth test ≤ n → Shaped n Q first → Shaped n Q second → Shaped (n + 1) Q (either test first second)
    either_formed n test first second formed low h g = record {
      formed = and_nothing (expr_formed vars tables test && stmts_formed vars tables (stmts first) && stmts_formed vars tables (stmts second))
          ∙ both_true (expr_formed vars tables test && stmts_formed vars tables (stmts first)) (stmts_formed vars tables (stmts second))
          (both_true (expr_formed vars tables test) (stmts_formed vars tables (stmts first)) formed h.formed) g.formed;
      depth = let a = h.depth in let b = g.depth in omega (arith, low, a, b);
      sets = λ k q. or_nothing (any_sets k (stmts first) || any_sets k (stmts second)) ∙ both_false (any_sets k (stmts first)) (any_sets k (stmts second)) (h.sets k q) (g.sets k q);
      quiet = and_nothing (all_quiet (stmts first) && all_quiet (stmts second)) ∙ both_true (all_quiet (stmts first)) (all_quiet (stmts second)) h.quiet g.quiet;
    }

    pub guard_formed : (n : ℕ) (body : List Stmt) → 0 < vars → 2 ≤ n → Shaped n Q body → Shaped (n + 1) Q (guard body ∷ [])
    guard_formed n body some low h =
        either_formed n (between Equal (variable 0) nought) body [] (between_formed Equal (variable 0) nought (var_formed 0 some) refl) (omega (arith, low)) h (nothing_formed n)

    pub fail_formed : (n : ℕ) (kind : Kind) → 0 < vars → 1 < n → Shaped n Q (fail kind ∷ [])
    fail_formed n Overflow some low = set_formed n 0 (number (pos 1)) some refl (omega (arith, low)) none
    fail_formed n Divide some low = set_formed n 0 (number (pos 2)) some refl (omega (arith, low)) none
    fail_formed n Index some low = set_formed n 0 (number (pos 3)) some refl (omega (arith, low)) none
    fail_formed n Range some low = set_formed n 0 (number (pos 4)) some refl (omega (arith, low)) none

    -- one part and then another
    pub then_formed : (n : ℕ) (first second : List Stmt) → 0 < vars → 2 ≤ n → Shaped (n + 1) Q first → Shaped n Q second → Shaped (n + 1) Q (then_do first second)
    then_formed n first second some low h g = append (n + 1) first (guard second ∷ []) h (guard_formed n second some low g)

    -- ---- operators

    module _ (x y : ℕ) (in_x : x < vars) (in_y : y < vars) (own : Q x → ⊥) where
      some : 0 < vars
      some = omega (arith, in_x)

      assign_formed : (op : COp) → Shaped 3 Q (assign op x y)
      assign_formed op = set_formed 3 x (between op (variable x) (variable y)) in_x (between_formed op (variable x) (variable y) (var_formed x in_x) (var_formed y in_y)) (omega arith) own

      attempt_formed : (test : Expr) (op : COp) → expr_formed vars tables test ≡ true → expr_depth test ≤ 3 → Shaped 4 Q (attempt test op x y)
      attempt_formed test op formed low = either_formed 3 test (assign op x y) (fail Overflow ∷ []) formed low (assign_formed op) (fail_formed 3 Overflow some (omega arith))

      -- a comparison with a variable
      low_formed : (op : COp) (z : ℤ) (k : ℕ) → fits_64 z ≡ true → k < vars → expr_formed vars tables (between op (number z) (variable k)) ≡ true
      low_formed op z k fits inside = between_formed op (number z) (variable k) fits (var_formed k inside)

      high_formed : (op : COp) (z : ℤ) (k : ℕ) → fits_64 z ≡ true → k < vars → expr_formed vars tables (between op (variable k) (number z)) ≡ true
      high_formed op z k fits inside = between_formed op (variable k) (number z) (var_formed k inside) fits

      -- a comparison with a bound
      under_formed : (op : COp) (z : ℤ) (j k : ℕ) → fits_64 z ≡ true → j < vars → k < vars → expr_formed vars tables (at_most (variable j) (between op (number z) (variable k))) ≡ true
      under_formed op z j k fits h g = between_formed AtMost (variable j) (between op (number z) (variable k)) (var_formed j h) (low_formed op z k fits g)

      over_formed : (op : COp) (z : ℤ) (j k : ℕ) → fits_64 z ≡ true → j < vars → k < vars → expr_formed vars tables (at_most (between op (number z) (variable k)) (variable j)) ≡ true
      over_formed op z j k fits h g = between_formed AtMost (between op (number z) (variable k)) (variable j) (low_formed op z k fits g) (var_formed j h)

      abbrev G : ℤ
      G = pos (2 ^ 63 - 1)

      abbrev L : ℤ
      L = negsuc (2 ^ 63 - 1)

      plus_formed : Shaped 5 Q (plus x y)
      plus_formed = either_formed 4 (at_most nought (variable y)) (attempt (at_most (variable x) (between Minus greatest (variable y))) Plus x y) (attempt (at_most (between Minus least (variable y)) (variable x)) Plus x y)
          (low_formed AtMost (pos 0) y refl in_y) (omega arith)
          (attempt_formed (at_most (variable x) (between Minus greatest (variable y))) Plus (under_formed Minus G x y refl in_x in_y) (omega arith))
          (attempt_formed (at_most (between Minus least (variable y)) (variable x)) Plus (over_formed Minus L x y refl in_x in_y) (omega arith))

      minus_formed : Shaped 5 Q (minus x y)
      minus_formed = either_formed 4 (at_most nought (variable y)) (attempt (at_most (between Plus least (variable y)) (variable x)) Minus x y) (attempt (at_most (variable x) (between Plus greatest (variable y))) Minus x y)
          (low_formed AtMost (pos 0) y refl in_y) (omega arith)
          (attempt_formed (at_most (between Plus least (variable y)) (variable x)) Minus (over_formed Plus L x y refl in_x in_y) (omega arith))
          (attempt_formed (at_most (variable x) (between Plus greatest (variable y))) Minus (under_formed Plus G x y refl in_x in_y) (omega arith))

      above_formed : Shaped 5 Q (times_above x y)
      above_formed = either_formed 4 (at_most nought (variable x)) (attempt (at_most (variable x) (between Over greatest (variable y))) Times x y) (attempt (at_most (between Over least (variable y)) (variable x)) Times x y)
          (low_formed AtMost (pos 0) x refl in_x) (omega arith)
          (attempt_formed (at_most (variable x) (between Over greatest (variable y))) Times (under_formed Over G x y refl in_x in_y) (omega arith))
          (attempt_formed (at_most (between Over least (variable y)) (variable x)) Times (over_formed Over L x y refl in_x in_y) (omega arith))

      below_formed : Shaped 5 Q (times_below x y)
      below_formed = either_formed 4 (between Equal (variable y) nought) (set_var x nought ∷ []) (attempt (at_most (between Over greatest (variable y)) (variable x)) Times x y)
          (high_formed Equal (pos 0) y refl in_y) (omega arith)
          (set_formed 4 x nought in_x refl (omega arith) own)
          (attempt_formed (at_most (between Over greatest (variable y)) (variable x)) Times (over_formed Over G x y refl in_x in_y) (omega arith))

      times_formed : Shaped 7 Q (times x y)
      times_formed = either_formed 6 (between Below nought (variable y)) (times_above x y)
          (either (between Below nought (variable x)) (attempt (at_most (between Over least (variable x)) (variable y)) Times x y) (times_below x y))
          (low_formed Below (pos 0) y refl in_y) (omega arith) (deeper 5 6 (times_above x y) (omega arith) above_formed)
          (either_formed 5 (between Below nought (variable x)) (attempt (at_most (between Over least (variable x)) (variable y)) Times x y) (times_below x y) (low_formed Below (pos 0) x refl in_x) (omega arith)
          (deeper 4 5 (attempt (at_most (between Over least (variable x)) (variable y)) Times x y) (omega arith) (attempt_formed (at_most (between Over least (variable x)) (variable y)) Times (over_formed Over L y x refl in_y in_x) (omega arith)))
          below_formed)

      divided_formed : (op : COp) → Shaped 6 Q (divided op x y)
      divided_formed op = either_formed 5 (between Equal (variable y) nought) (fail Divide ∷ []) (either (between Equal (variable y) (number (negsuc 0))) (attempt (between Below least (variable x)) op x y) (assign op x y))
          (high_formed Equal (pos 0) y refl in_y) (omega arith) (fail_formed 5 Divide some (omega arith))
          (either_formed 4 (between Equal (variable y) (number (negsuc 0))) (attempt (between Below least (variable x)) op x y) (assign op x y) (high_formed Equal (negsuc 0) y refl in_y) (omega arith)
          (attempt_formed (between Below least (variable x)) op (low_formed Below L x refl in_x) (omega arith)) (deeper 3 4 (assign op x y) (omega arith) (assign_formed op)))

      taken_formed : Shaped 2 Q (set_var x (variable y) ∷ [])
      taken_formed = set_formed 2 x (variable y) in_x (var_formed y in_y) (omega arith) own

      order_formed : expr_formed vars tables (at_most (variable x) (variable y)) ≡ true
      order_formed = between_formed AtMost (variable x) (variable y) (var_formed x in_x) (var_formed y in_y)

      operation_formed : (op : ExprOp) → Shaped 7 Q (operation op x y)
      operation_formed Add = deeper 5 7 (plus x y) (omega arith) plus_formed
      operation_formed Sub = deeper 5 7 (minus x y) (omega arith) minus_formed
      operation_formed Mul = times_formed
      operation_formed Div = deeper 6 7 (divided Over x y) (omega arith) (divided_formed Over)
      operation_formed Rem = deeper 6 7 (divided Rest x y) (omega arith) (divided_formed Rest)
      operation_formed Lt = deeper 3 7 (assign Below x y) (omega arith) (assign_formed Below)
      operation_formed Le = deeper 3 7 (assign AtMost x y) (omega arith) (assign_formed AtMost)
      operation_formed Eq = deeper 3 7 (assign Equal x y) (omega arith) (assign_formed Equal)
      operation_formed Min = deeper 3 7 (operation Min x y) (omega arith) (either_formed 2 (at_most (variable x) (variable y)) [] (set_var x (variable y) ∷ []) order_formed (omega arith) (nothing_formed 2) taken_formed)
      operation_formed Max = deeper 3 7 (operation Max x y) (omega arith) (either_formed 2 (at_most (variable x) (variable y)) (set_var x (variable y) ∷ []) [] order_formed (omega arith) taken_formed (nothing_formed 2))

    -- ---- reads of ports

    module _ (reads : Reads) (in_entries : reads.entries < tables) (in_numbers : reads.numbers < tables) (start rank d : ℕ) (small : start < 2 ^ 63) (in_rank : rank < vars) (in_d : d < vars) (more : 1 < vars)
        (own_d : Q d → ⊥) where
      abbrev entry : Expr
      entry = entry_at reads (pos start) rank

      pub entry_formed : expr_formed vars tables entry ≡ true
      entry_formed = both_true (nat_lt reads.entries tables) (expr_formed vars tables (between Plus (variable 1) (between Plus (number (pos start)) (variable rank)))) (lt-ltb reads.entries tables in_entries)
          (between_formed Plus (variable 1) (between Plus (number (pos start)) (variable rank)) (var_formed 1 more)
          (between_formed Plus (number (pos start)) (variable rank) (lt-ltb start (2 ^ 63) small) (var_formed rank in_rank)))

      number_formed : expr_formed vars tables (tab reads.numbers (between Minus (number (negsuc 0)) entry)) ≡ true
      number_formed = both_true (nat_lt reads.numbers tables) (expr_formed vars tables (between Minus (number (negsuc 0)) entry)) (lt-ltb reads.numbers tables in_numbers)
          (between_formed Minus (number (negsuc 0)) entry refl entry_formed)

      pub fetched_formed : Shaped 8 Q (fetched reads (pos start) rank d)
      fetched_formed = either_formed 7 (at_most nought entry) (set_var d (cell_v entry) ∷ []) (set_var d (tab reads.numbers (between Minus (number (negsuc 0)) entry)) ∷ [])
          (between_formed AtMost nought entry refl entry_formed) (omega arith)
          (set_formed 7 d (cell_v entry) in_d entry_formed (omega arith) own_d)
          (set_formed 7 d (tab reads.numbers (between Minus (number (negsuc 0)) entry)) in_d number_formed (omega arith) own_d)

      inside_formed : (x n : ℕ) → x < vars → fits_64 (pos n) ≡ true → expr_formed vars tables (inside x n) ≡ true
      inside_formed x n in_x fits = between_formed Times (at_most nought (variable x)) (between Below (variable x) (number (pos n)))
          (between_formed AtMost nought (variable x) refl (var_formed x in_x)) (between_formed Below (variable x) (number (pos n)) (var_formed x in_x) fits)

      module _ (own_rank : Q rank → ⊥) where
        next_formed : (n x m : ℕ) → x < vars → fits_64 (pos n) ≡ true → 3 < m → Shaped m Q (next_rank rank n x ∷ [])
        next_formed n x m in_x fits low = set_formed m rank (between Plus (between Times (variable rank) (number (pos n))) (variable x)) in_rank
            (between_formed Plus (between Times (variable rank) (number (pos n))) (variable x) (between_formed Times (variable rank) (number (pos n)) (var_formed rank in_rank) fits) (var_formed x in_x)) (omega (arith, low)) own_rank

        ranked_formed : (shape : List ℕ) (x count : ℕ) → AllByRecursion IsEntry shape → x + count ≤ vars → Shaped (8 + length shape) Q (ranked reads (pos start) rank d shape x count)
        ranked_formed [] x zero h inside = fetched_formed
        ranked_formed [] x (suc count) h inside = fail_formed 8 Index (omega (arith, more)) (omega arith)
        ranked_formed (n ∷ shape) x zero h inside = fail_formed (8 + suc (length shape)) Index (omega (arith, more)) (omega arith)
        ranked_formed (n ∷ shape) x (suc count) h within =
            let fits : fits_64 (pos n) ≡ true = lt-ltb n (2 ^ 63) (let most = h.0.1 in omega (arith, most)) in
            let in_x : x < vars = omega (arith, within) in
            let rest = ranked reads (pos start) rank d shape (x + 1) count in
            let m : ℕ = 8 + length shape in
            deeper (m + 1) (8 + suc (length shape)) (either (inside x n) (next_rank rank n x ∷ rest) (fail Index ∷ [])) (omega arith)
            (either_formed m (inside x n) (next_rank rank n x ∷ rest) (fail Index ∷ []) (inside_formed x n in_x fits) (omega arith)
            (append m (next_rank rank n x ∷ []) rest (next_formed n x m in_x fits (omega arith)) (ranked_formed shape (x + 1) count h.1 (omega (arith, within))))
            (fail_formed m Index (omega (arith, more)) (omega arith)))

  -- ---- sums

  -- a loop whose body sets no variable of these, and not its own
  pub for_formed : (Q : ℕ → Type 0) (n k m : ℕ) (body : List Stmt) → k < vars → m < 2 ^ 63 → (Q k → ⊥) → any_sets k (stmts body) ≡ false → Shaped n Q body → Shaped (n + 1) Q (for_each k (pos 0) (pos m) (stmts body) ∷ [])
  for_formed Q n k m body inside small own free h = record {
    formed = and_nothing (nat_lt k vars && true && fits_64 (pos m) && int_le (pos 0) (pos m) && not (any_sets k (stmts body)) && stmts_formed vars tables (stmts body))
        ∙ rw (lt-ltb k vars inside, lt-ltb m (2 ^ 63) small, leb-zero m, free) h.formed;
    depth = let a = h.depth in omega (arith, a);
    sets = λ j q. or_nothing ((k == j) || any_sets j (stmts body)) ∙ both_false (k == j) (any_sets j (stmts body)) (not_equal k j (λ e. own (subst Q (sym e) q))) (h.sets j q);
    quiet = and_nothing (all_quiet (stmts body)) ∙ h.quiet;
  }

-- ---- names

-- each bound name has one of so many variables
abbrev AreBelow : ℕ → List (List ℕ × ℕ) → Type 0
AreBelow vars [] = Unit {0}
AreBelow vars (b ∷ bound) = (b.1 < vars) × AreBelow vars bound

-- the variables from 1 to below one
abbrev pub Low : ℕ → ℕ → Type 0
Low d k = (0 < k) × (k < d)

pub none_low : (d : ℕ) → Low d 0 → ⊥
none_low d q = omega (arith, q.0)

module _ (vars tables : ℕ) where
  bound_formed : (bound : List (List ℕ × ℕ)) (x : List ℕ) → AreBelow vars bound → (expr_formed vars tables (bound_at bound x) ≡ true) × (expr_depth (bound_at bound x) ≤ 1)
  bound_formed [] x h = (refl, omega arith)
  bound_formed (b ∷ bound) x h =
      elim (same b.0 x) as (λ t. (expr_formed vars tables (if t then variable b.1 else bound_at bound x) ≡ true) × (expr_depth (if t then variable b.1 else bound_at bound x) ≤ 1))
      [ true ↦ (lt-ltb b.1 vars h.0, omega arith) | false ↦ bound_formed bound x h.1 ]

  point_formed : (rank k : ℕ) → rank + 2 ≤ vars → (expr_formed vars tables (point_at rank k) ≡ true) × (expr_depth (point_at rank k) ≤ 1)
  point_formed rank k room = by_test (nat_lt k rank) refl
    where
      by_test : (t : Bool) → nat_lt k rank ≡ t → (expr_formed vars tables (if t then variable (k + 2) else nought) ≡ true) × (expr_depth (if t then variable (k + 2) else nought) ≤ 1)
      by_test true e = let below : k < rank = ltb-true k rank e in (lt-ltb (k + 2) vars (omega (arith, below, room)), omega arith)
      by_test false e = (refl, omega arith)

  -- ---- expressions

  module _ (c : Setting) (shapes : AreShapes c.ins) (few : patterns_size c.ins < 2 ^ 63) (in_entries : c.reads.entries < tables) (in_numbers : c.reads.numbers < tables) where
    element_by : (start d count b : ℕ) (o : Option (List ℕ)) → IfSome o (HasRoom (patterns_size c.ins) start) → b ≤ d → 2 ≤ d → d + count < vars → Shaped vars tables 21 (Low b) (element_in c.reads (pos start) d count o)
    element_by start d count b None h le more inside = fail_formed vars tables (Low b) (none_low b) 21 Index (omega (arith, inside)) (omega arith)
    element_by start d count b (Some shape) h le more inside =
        let rank : ℕ = d + count in
        let body = ranked c.reads (pos start) rank d shape d count in
        append vars tables (Low b) (none_low b) 21 (set_var rank nought ∷ []) body
        (set_formed vars tables (Low b) (none_low b) 21 rank nought inside refl (omega arith) (λ q. omega (arith, q.1, le)))
        (deeper vars tables (Low b) (none_low b) (8 + length shape) 21 body (let most = h.is_shape.rank in omega (arith, most))
        (ranked_formed vars tables (Low b) (none_low b) c.reads in_entries in_numbers start rank d (omega (arith, h.room, few)) inside (omega (arith, inside)) (omega (arith, inside, more))
        (λ q. omega (arith, q.1, le)) (λ q. omega (arith, q.1, le)) shape d count h.is_shape.entry (omega (arith, inside))))

    -- a sum's loop, by what its term is
    turn_formed : (Q : ℕ → Type 0) (none : Q 0 → ⊥) (d m : ℕ) (term : List Stmt) → d + 2 < vars → 5 ≤ m → (Q d → ⊥) → Shaped vars tables (m + 1) Q term → Shaped vars tables (m + 2) Q (guard (then_do term (plus d (d + 2))) ∷ [])
    turn_formed Q none d m term inside some own h =
        deeper vars tables Q none (m + 1 + 1) (m + 2) (guard (then_do term (plus d (d + 2))) ∷ []) (omega arith)
        (guard_formed vars tables Q none (m + 1) (then_do term (plus d (d + 2))) (omega (arith, inside)) (omega (arith, some))
        (then_formed vars tables Q none m term (plus d (d + 2)) (omega (arith, inside)) (omega (arith, some)) h
        (deeper vars tables Q none 5 m (plus d (d + 2)) some (plus_formed vars tables Q none d (d + 2) (omega (arith, inside)) inside own))))

    mutual
      expr_shaped : (e : Tree) → IsSmall e → (bound : List (List ℕ × ℕ)) → AreBelow vars bound → (b d : ℕ) → b ≤ d → c.rank + 2 ≤ d → d + room e ≤ vars → Shaped vars tables (2 * depth e + 38) (Low b) (lowered c bound d e)
      expr_shaped (num z) small bound h b d le above inside = set_formed vars tables (Low b) (none_low b) 40 d (number z) (omega (arith, inside)) small (omega arith) (λ q. omega (arith, q.1, le))
      expr_shaped (index k) small bound h b d le above inside =
          let p = point_formed c.rank k (omega (arith, above, inside)) in set_formed vars tables (Low b) (none_low b) 40 d (point_at c.rank k) (omega (arith, inside)) p.0 (omega (arith, p.1)) (λ q. omega (arith, q.1, le))
      expr_shaped (var x) small bound h b d le above inside =
          let p = bound_formed bound x h in set_formed vars tables (Low b) (none_low b) 40 d (bound_at bound x) (omega (arith, inside)) p.0 (omega (arith, p.1)) (λ q. omega (arith, q.1, le))
      expr_shaped (read p at) small bound h b d le above inside =
          let count = count_fits at in
          let n : ℕ = 2 * depth_of at + 39 in
          let body = element_in c.reads (pos (start_of c.ins p)) d (tree_count at) (shape_of c.ins p) in
          deeper vars tables (Low b) (none_low b) (n + 1) (2 * (1 + depth_of at) + 38) (then_do (all_lowered c bound d at) body) (omega arith)
          (then_formed vars tables (Low b) (none_low b) n (all_lowered c bound d at) body (omega (arith, inside)) (omega arith)
          (deeper vars tables (Low b) (none_low b) n (n + 1) (all_lowered c bound d at) (omega arith) (all_shaped at small bound h b d le above (omega (arith, inside))))
          (deeper vars tables (Low b) (none_low b) 21 n body (omega arith) (element_by (start_of c.ins p) d (tree_count at) b (shape_of c.ins p) (port_room c.ins p shapes) le (omega (arith, above)) (omega (arith, inside, count)))))
      expr_shaped (bin op l r) small bound h b d le above inside =
          let m : ℕ = 2 * max (depth l) (depth r) + 38 in
          let some = some_room r in
          let first = lowered c bound d l in
          let second = lowered c bound (d + 1) r in
          let last = operation op d (d + 1) in
          deeper vars tables (Low b) (none_low b) (m + 1 + 1) (2 * (1 + max (depth l) (depth r)) + 38) (then_do first (then_do second last)) (omega arith)
          (then_formed vars tables (Low b) (none_low b) (m + 1) first (then_do second last) (omega (arith, inside)) (omega arith)
          (deeper vars tables (Low b) (none_low b) (2 * depth l + 38) (m + 1 + 1) first (omega arith) (expr_shaped l small.0 bound h b d le above (omega (arith, inside))))
          (then_formed vars tables (Low b) (none_low b) m second last (omega (arith, inside)) (omega arith)
          (deeper vars tables (Low b) (none_low b) (2 * depth r + 38) (m + 1) second (omega arith) (expr_shaped r small.1 bound h b (d + 1) (omega (arith, le)) (omega (arith, above)) (omega (arith, inside))))
          (deeper vars tables (Low b) (none_low b) 7 m last (omega arith) (operation_formed vars tables (Low b) (none_low b) d (d + 1) (omega (arith, inside)) (omega (arith, inside, some)) (λ q. omega (arith, q.1, le)) op))))
      expr_shaped (if_else q l r) small bound h b d le above inside =
          let m : ℕ = 2 * max (depth q) (max (depth l) (depth r)) + 38 in
          let first = lowered c bound d q in
          let left = lowered c bound d l in
          let right = lowered c bound d r in
          let some = some_room q in
          deeper vars tables (Low b) (none_low b) (m + 1 + 1) (2 * (1 + max (depth q) (max (depth l) (depth r))) + 38) (then_do first (either (variable d) left right)) (omega arith)
          (then_formed vars tables (Low b) (none_low b) (m + 1) first (either (variable d) left right) (omega (arith, inside, some)) (omega arith)
          (deeper vars tables (Low b) (none_low b) (2 * depth q + 38) (m + 1 + 1) first (omega arith) (expr_shaped q small.0 bound h b d le above (omega (arith, inside))))
          (either_formed vars tables (Low b) (none_low b) m (variable d) left right (var_formed vars tables d (omega (arith, inside, some))) (omega arith)
          (deeper vars tables (Low b) (none_low b) (2 * depth l + 38) m left (omega arith) (expr_shaped l small.1 bound h b d le above (omega (arith, inside))))
          (deeper vars tables (Low b) (none_low b) (2 * depth r + 38) m right (omega arith) (expr_shaped r small.2 bound h b d le above (omega (arith, inside))))))
      expr_shaped (sum x n e) small bound h b d le above inside =
          let m : ℕ = 2 * depth e + 37 in
          let some = some_room e in
          let term = lowered c ((x, d + 1) ∷ bound) (d + 2) e in
          let body = guard (then_do term (plus d (d + 2))) ∷ [] in
          let in_d : d + 2 < vars = omega (arith, inside, some) in
          let again = expr_shaped e small.1 ((x, d + 1) ∷ bound) (omega (arith, in_d), h) in
          let one = again b (d + 2) (omega (arith, le)) (omega (arith, above)) (omega (arith, inside)) in
          let two = again (d + 2) (d + 2) (omega arith) (omega (arith, above)) (omega (arith, inside)) in
          let own : ℕ → Type 0 = λ k. k ≡ d + 1 in
          let free = turn_formed own (λ e. omega (arith, e)) d m term in_d (omega arith) (λ e. omega (arith, e)) (record { formed = two.formed; depth = omega (arith, two.depth); sets = λ k e. two.sets k (omega (arith, e), omega (arith, e)); quiet = two.quiet }) in
          let turn = turn_formed (Low b) (none_low b) d m term in_d (omega arith) (λ q. omega (arith, q.1, le)) (record { formed = one.formed; depth = omega (arith, one.depth); sets = one.sets; quiet = one.quiet }) in
          let loop = for_formed vars tables (Low b) (m + 2) (d + 1) n body (omega (arith, in_d)) (omega (arith, small.0)) (λ q. omega (arith, q.1, le)) (free.sets (d + 1) refl) turn in
          let last : ℕ = 2 * (1 + depth e) + 38 in
          append vars tables (Low b) (none_low b) last (set_var d nought ∷ []) (for_each (d + 1) (pos 0) (pos n) (stmts body) ∷ [])
          (set_formed vars tables (Low b) (none_low b) last d nought (omega (arith, in_d)) refl (omega arith) (λ q. omega (arith, q.1, le)))
          (deeper vars tables (Low b) (none_low b) (m + 2 + 1) last (for_each (d + 1) (pos 0) (pos n) (stmts body) ∷ []) (omega arith) loop)

      all_shaped : (ts : Trees) → AreSmall ts → (bound : List (List ℕ × ℕ)) → AreBelow vars bound → (b d : ℕ) → b ≤ d → c.rank + 2 ≤ d → d + room_of ts ≤ vars → Shaped vars tables (2 * depth_of ts + 39) (Low b) (all_lowered c bound d ts)
      all_shaped no_trees small bound h b d le above inside = nothing_formed vars tables (Low b) (none_low b) 39
      all_shaped (tree_and t ts) small bound h b d le above inside =
          let m : ℕ = 2 * max (depth t) (depth_of ts) + 39 in
          let first = lowered c bound d t in
          let some = some_room t in
          append vars tables (Low b) (none_low b) m (guard first ∷ []) (all_lowered c bound (d + 1) ts)
          (deeper vars tables (Low b) (none_low b) (2 * depth t + 38 + 1) m (guard first ∷ []) (omega arith)
          (guard_formed vars tables (Low b) (none_low b) (2 * depth t + 38) first (omega (arith, inside, some)) (omega arith) (expr_shaped t small.0 bound h b d le above (omega (arith, inside)))))
          (deeper vars tables (Low b) (none_low b) (2 * depth_of ts + 39) m (all_lowered c bound (d + 1) ts) (omega arith) (all_shaped ts small.1 bound h b (d + 1) (omega (arith, le)) (omega (arith, above)) (omega (arith, inside))))

    -- a whole expression
    pub lowered_formed : (e : Tree) → IsSmall e → (d : ℕ) → c.rank + 2 ≤ d → d + room e ≤ vars → AreFormed vars tables (2 * depth e + 38) d (lowered c [] d e)
    lowered_formed e small d above inside =
        let s = expr_shaped e small [] tt d d (omega arith) above inside in
        record { formed = s.formed; depth = s.depth; sets = λ k some below. s.sets k (some, below); quiet = s.quiet }
