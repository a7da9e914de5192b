-- The lines of statements, steps and programs, and which lines lead to a state.
use Rattle.std.specs.Prelude.{◌≡◌, ℕ, zero, suc, ◌+◌, ◌-◌, ◌≤◌, nat_lt, ◌==◌, int_le, Bool, true, false, ◌||◌, ℤ, List, [], ◌∷◌, ◌++◌, length, if◌then◌else◌}
use Rattle.std.proofs.Common.{sym, refl, ap, arith, ◌∙◌, append_assoc}
use Rattle.std.proofs.lemmas.List.{append-nil}
use Rattle.aol_shape.specs.Numbers.{fits_64}
use Rattle.aol_csyn.specs.Tree.{Expr, Stmt, set_var, put_v, put_f, if_else, for_each, Stmts, no_stmts, stmt_and, stmts, Step, Program}
use Rattle.aol_csyn.specs.Form.{expr_depth, expr_formed, stmt_depth, stmts_depth, sets, any_sets, stmt_formed, stmts_formed}
use Rattle.aol_cread.specs.Lines.{Line, head_line, type_line, table_line, v_line, f_line, step_line, var_line, set_line, put_v_line, put_f_line, if_line, else_line, for_line, close_line, run_line, call_line}
use Rattle.aol_cread.specs.States.{Frame, in_for, in_first, in_second, is_held}
use Rattle.aol_cread.proofs.Exprs.{both_true, left_true, right_true}

-- ---- lines

abbrev mutual
  pub stmt_lines : Stmt → List Line
  stmt_lines (set_var k e) = set_line k e ∷ []
  stmt_lines (put_v at e) = put_v_line at e ∷ []
  stmt_lines (put_f at e) = put_f_line at e ∷ []
  stmt_lines (if_else e first second) = if_line e ∷ (stmts_lines first ++ (else_line ∷ (stmts_lines second ++ close_line ∷ [])))
  stmt_lines (for_each k a b body) = for_line k a b ∷ (stmts_lines body ++ close_line ∷ [])

  pub stmts_lines : Stmts → List Line
  stmts_lines no_stmts = []
  stmts_lines (stmt_and st rest) = stmt_lines st ++ stmts_lines rest

abbrev pub tables_lines : ℕ → List (List ℤ) → List Line
tables_lines t [] = []
tables_lines t (numbers ∷ tables) = table_line t numbers ∷ tables_lines (t + 1) tables

abbrev pub vars_lines : ℕ → ℕ → List Line
vars_lines k zero = []
vars_lines k (suc n) = var_line k ∷ vars_lines (k + 1) n

abbrev pub step_lines : ℕ → ℕ → Step → List Line
step_lines level worker s = step_line level worker ∷ (vars_lines 0 s.vars ++ (stmts_lines s.body ++ close_line ∷ []))

abbrev pub steps_lines : ℕ → ℕ → ℕ → List Step → List Line
steps_lines workers level worker [] = []
steps_lines workers level worker (s ∷ steps) =
    step_lines level worker s ++ (if worker + 1 == workers then steps_lines workers (level + 1) 0 steps else steps_lines workers level (worker + 1) steps)

-- so many calls
abbrev pub calls_lines : ℕ → ℕ → ℕ → ℕ → List Line
calls_lines workers level worker zero = []
calls_lines workers level worker (suc n) =
    call_line level worker ∷ (if worker + 1 == workers then calls_lines workers (level + 1) 0 n else calls_lines workers level (worker + 1) n)

abbrev pub front_lines : List (List ℤ) → ℕ → List Line
front_lines tables cells = (head_line ∷ type_line ∷ tables_lines 0 tables) ++ v_line cells ∷ f_line cells ∷ []

abbrev pub program_lines : Program → List Line
program_lines p = (front_lines p.tables p.cells ++ steps_lines p.workers 0 0 p.steps) ++ (run_line ∷ (calls_lines p.workers 0 0 (length p.steps) ++ close_line ∷ []))

-- the level and the worker after so many steps
abbrev pub place : ℕ → ℕ → ℕ → ℕ → ℕ × ℕ
place workers level worker zero = (level, worker)
place workers level worker (suc n) = if worker + 1 == workers then place workers (level + 1) 0 n else place workers level (worker + 1) n

-- ---- blocks

-- the lines of a step so far, after those of its variables
abbrev pub nested_lines : List Frame → List Stmt → List Line
nested_lines [] here = stmts_lines (stmts here)
nested_lines (in_for k a b before ∷ fs) here = nested_lines fs before ++ (for_line k a b ∷ stmts_lines (stmts here))
nested_lines (in_first e before ∷ fs) here = nested_lines fs before ++ (if_line e ∷ stmts_lines (stmts here))
nested_lines (in_second e first before ∷ fs) here = nested_lines fs before ++ (if_line e ∷ (stmts_lines (stmts first) ++ (else_line ∷ stmts_lines (stmts here))))

-- statements that fit inside these blocks, with so many variables and tables
pub record Inner (vars tables : ℕ) (fs : List Frame) (here : List Stmt) : Type 0 where
  pub formed : stmts_formed vars tables (stmts here) ≡ true
  pub depth : stmts_depth (stmts here) + length fs ≤ 1024
  pub free : (k : ℕ) → is_held k fs ≡ true → any_sets k (stmts here) ≡ false

-- a statement that fits there
pub record StmtFits (vars tables : ℕ) (fs : List Frame) (st : Stmt) : Type 0 where
  pub formed : stmt_formed vars tables st ≡ true
  pub depth : stmt_depth st + length fs ≤ 1024
  pub free : (k : ℕ) → is_held k fs ≡ true → sets k st ≡ false

pub record ForFits (vars : ℕ) (fs : List Frame) (k : ℕ) (a b : ℤ) : Type 0 where
  pub name : nat_lt k vars ≡ true
  pub first : fits_64 a ≡ true
  pub second : fits_64 b ≡ true
  pub ordered : int_le a b ≡ true
  pub free : is_held k fs ≡ false

pub record IfFits (vars tables : ℕ) (fs : List Frame) (e : Expr) : Type 0 where
  pub formed : expr_formed vars tables e ≡ true
  pub depth : expr_depth e + 1 + length fs ≤ 1024

abbrev pub Nested : ℕ → ℕ → List Frame → List Stmt → Type 0
Nested vars tables [] here = Inner vars tables [] here × Unit {0}
Nested vars tables (in_for k a b before ∷ fs) here = Inner vars tables (in_for k a b before ∷ fs) here × (ForFits vars fs k a b × Nested vars tables fs before)
Nested vars tables (in_first e before ∷ fs) here = Inner vars tables (in_first e before ∷ fs) here × (IfFits vars tables fs e × Nested vars tables fs before)
Nested vars tables (in_second e first before ∷ fs) here = Inner vars tables (in_second e first before ∷ fs) here × ((IfFits vars tables fs e × Inner vars tables (in_first e before ∷ fs) first) × Nested vars tables fs before)

stmts_lines_more : (here : List Stmt) (st : Stmt) → stmts_lines (stmts (here ++ st ∷ [])) ≡ stmts_lines (stmts here) ++ stmt_lines st
stmts_lines_more [] st = append-nil (stmt_lines st)
stmts_lines_more (x ∷ here) st = ap (λ ls. stmt_lines x ++ ls) (stmts_lines_more here st) ∙ sym (append_assoc (stmt_lines x) (stmts_lines (stmts here)) (stmt_lines st))

pub nested_more : (fs : List Frame) (here : List Stmt) (st : Stmt) → nested_lines fs (here ++ st ∷ []) ≡ nested_lines fs here ++ stmt_lines st
nested_more [] here st = stmts_lines_more here st
nested_more (in_for k a b before ∷ fs) here st =
    ap (λ ls. nested_lines fs before ++ (for_line k a b ∷ ls)) (stmts_lines_more here st) ∙ sym (append_assoc (nested_lines fs before) (for_line k a b ∷ stmts_lines (stmts here)) (stmt_lines st))
nested_more (in_first e before ∷ fs) here st =
    ap (λ ls. nested_lines fs before ++ (if_line e ∷ ls)) (stmts_lines_more here st) ∙ sym (append_assoc (nested_lines fs before) (if_line e ∷ stmts_lines (stmts here)) (stmt_lines st))
nested_more (in_second e first before ∷ fs) here st =
    ap (λ ls. nested_lines fs before ++ (if_line e ∷ (stmts_lines (stmts first) ++ (else_line ∷ ls)))) (stmts_lines_more here st)
    ∙ (ap (λ ls. nested_lines fs before ++ (if_line e ∷ ls)) (sym (append_assoc (stmts_lines (stmts first)) (else_line ∷ stmts_lines (stmts here)) (stmt_lines st)))
    ∙ sym (append_assoc (nested_lines fs before) (if_line e ∷ (stmts_lines (stmts first) ++ (else_line ∷ stmts_lines (stmts here)))) (stmt_lines st)))

-- ---- more statements

formed_more : (vars tables : ℕ) (here : List Stmt) (st : Stmt) → stmts_formed vars tables (stmts here) ≡ true → stmt_formed vars tables st ≡ true → stmts_formed vars tables (stmts (here ++ st ∷ [])) ≡ true
formed_more vars tables [] st h k = both_true (stmt_formed vars tables st) true k refl
formed_more vars tables (x ∷ here) st h k =
    let one = stmt_formed vars tables x in
    both_true one (stmts_formed vars tables (stmts (here ++ st ∷ []))) (left_true one (stmts_formed vars tables (stmts here)) h) (formed_more vars tables here st (right_true one (stmts_formed vars tables (stmts here)) h) k)

depth_more : (here : List Stmt) (st : Stmt) (n : ℕ) → stmts_depth (stmts here) ≤ n → stmt_depth st ≤ n → stmts_depth (stmts (here ++ st ∷ [])) ≤ n
depth_more [] st n h k = omega (arith, k)
depth_more (x ∷ here) st n h k =
    let rest = depth_more here st n (omega (arith, h)) k in omega (arith, h, rest)

or_false : (a b : Bool) → (a || b) ≡ false → (a ≡ false) × (b ≡ false)
or_false true b h = absurd (cc)
or_false false b h = (refl, h)

false_or : (a b : Bool) → a ≡ false → b ≡ false → (a || b) ≡ false
false_or true b h k = absurd (cc)
false_or false b h k = k

sets_more : (k : ℕ) (here : List Stmt) (st : Stmt) → any_sets k (stmts here) ≡ false → sets k st ≡ false → any_sets k (stmts (here ++ st ∷ [])) ≡ false
sets_more k [] st h i = false_or (sets k st) false i refl
sets_more k (x ∷ here) st h i =
    let both = or_false (sets k x) (any_sets k (stmts here)) h in
    false_or (sets k x) (any_sets k (stmts (here ++ st ∷ []))) both.0 (sets_more k here st both.1 i)

inner_more : (vars tables : ℕ) (fs : List Frame) (here : List Stmt) (st : Stmt) → Inner vars tables fs here → StmtFits vars tables fs st → Inner vars tables fs (here ++ st ∷ [])
inner_more vars tables fs here st i f =
    let low = i.depth in let small = f.depth in
    record {
      formed = formed_more vars tables here st i.formed f.formed;
      depth = let deep = depth_more here st (1024 - length fs) (omega (arith, low)) (omega (arith, small)) in omega (arith, deep, low);
      free = λ k h. sets_more k here st (i.free k h) (f.free k h);
    }

pub nested_inner : (vars tables : ℕ) (fs : List Frame) (here : List Stmt) → Nested vars tables fs here → Inner vars tables fs here
nested_inner vars tables [] here n = n.0
nested_inner vars tables (in_for k a b before ∷ fs) here n = n.0
nested_inner vars tables (in_first e before ∷ fs) here n = n.0
nested_inner vars tables (in_second e first before ∷ fs) here n = n.0

pub nested_with : (vars tables : ℕ) (fs : List Frame) (here st : List Stmt) → Nested vars tables fs here → Inner vars tables fs st → Nested vars tables fs st
nested_with vars tables [] here st n i = (i, tt)
nested_with vars tables (in_for k a b before ∷ fs) here st n i = (i, n.1)
nested_with vars tables (in_first e before ∷ fs) here st n i = (i, n.1)
nested_with vars tables (in_second e first before ∷ fs) here st n i = (i, n.1)

pub nested_add : (vars tables : ℕ) (fs : List Frame) (here : List Stmt) (st : Stmt) → Nested vars tables fs here → StmtFits vars tables fs st → Nested vars tables fs (here ++ st ∷ [])
nested_add vars tables fs here st n f = nested_with vars tables fs here (here ++ st ∷ []) n (inner_more vars tables fs here st (nested_inner vars tables fs here n) f)

pub inner_none : (vars tables : ℕ) (fs : List Frame) → length fs ≤ 1024 → Inner vars tables fs []
inner_none vars tables fs h = record { formed = refl; depth = omega (arith, h); free = λ k i. refl }
