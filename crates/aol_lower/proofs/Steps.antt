-- What single statements, choices and statements one after another leave.
use Rattle.std.specs.Prelude.{◌≡◌, ℕ, zero, suc, ◌+◌, ◌<◌, ◌≤◌, ◌⊎◌, ℤ, pos, negsuc, Bool, true, false, List, [], ◌∷◌, ◌++◌, length, slice_get, slice_set, nat_lt, Option, Some, None, option_map, option_and_then, Result, Ok, Err, if◌then◌else◌}
use Rattle.std.proofs.Common.{refl, sym, ap, subst, arith, ◌∙◌}
use Rattle.std.proofs.lemmas.List.{length-set}
use Rattle.std.proofs.lemmas.Bool.{lt-ltb}
use Rattle.aol_shape.specs.Numbers.{fits_64}
use Rattle.aol_expr_tree.specs.declared.value.Kind.{Kind}
use Rattle.aol_expr_tree.specs.declared.value.Kind.TheVariants.{Overflow, Divide, Index, Range}
use Rattle.aol_expr_tree.specs.Meaning.{◌>>=◌}
use Rattle.aol_csyn.specs.declared.program.COp.{COp}
use Rattle.aol_csyn.specs.declared.program.COp.TheVariants.{Eq as Equal}
use Rattle.aol_csyn.specs.Tree.{Expr, num as number, var as variable, bin as between, Stmt, set_var, if_else as choice, stmts, no_stmts}
use Rattle.aol_csyn.specs.Meaning.{State, value, applied, truth, changed, with_vars, with_var, is_zero, run, run_all}
use Rattle.aol_csyn.proofs.Parts.{parts_follow}
use Rattle.aol_lower.specs.Effect.{kind_number, Keeps, IsSound, Holds, Leaves}
use Rattle.aol_lower.specs.Lowered.{fail, either, guard, then_do}

-- ---- lists with one entry changed

other_stays : (xs : List ℤ) (k j : ℕ) (z : ℤ) → (k ≡ j → ⊥) → slice_get (slice_set xs k z) j ≡ slice_get xs j
other_stays [] k j z h = refl
other_stays (x ∷ xs) zero zero z h = absurd (h refl)
other_stays (x ∷ xs) zero (suc j) z h = refl
other_stays (x ∷ xs) (suc k) zero z h = refl
other_stays (x ∷ xs) (suc k) (suc j) z h = other_stays xs k j z (λ e. h (ap (λ n. suc n) e))

own_changes : (xs : List ℤ) (k : ℕ) (z : ℤ) → k < length xs → slice_get (slice_set xs k z) k ≡ Some z
own_changes [] k z h = absurd (omega arith)
own_changes (x ∷ xs) zero z h = refl
own_changes (x ∷ xs) (suc k) z h = own_changes xs k z (omega arith)

-- ---- what is kept

pub keeps_all : (d : ℕ) (s : State) → Keeps d s s
keeps_all d s = record { v = refl; f = refl; size = refl; below = λ k some h. refl }

pub keeps_less : (d e : ℕ) (s t : State) → d ≤ e → Keeps e s t → Keeps d s t
keeps_less d e s t le k = record { v = k.v; f = k.f; size = k.size; below = λ j some h. k.below j some (omega arith) }

pub keeps_then : (d : ℕ) (s t u : State) → Keeps d s t → Keeps d t u → Keeps d s u
keeps_then d s t u a b = record { v = b.v ∙ a.v; f = b.f ∙ a.f; size = b.size ∙ a.size; below = λ j some h. b.below j some h ∙ a.below j some h }

-- ---- a variable takes a number

-- the state after it
abbrev pub put : ℕ → ℤ → State → State
put k z s = with_vars s (slice_set s.vars k z)

pub put_runs : (k : ℕ) (z : ℤ) (s : State) → k < length s.vars → with_var k z s ≡ Some (put k z s)
put_runs k z s h = rw (lt-ltb k (length s.vars) h) refl

pub put_keeps : (d k : ℕ) (z : ℤ) (s : State) → d ≤ k → Keeps d s (put k z s)
put_keeps d k z s h = record { v = refl; f = refl; size = length-set s.vars k z; below = λ j some below. other_stays s.vars k j z (λ e. omega (arith, e, h, below)) }

put_fault_keeps : (d : ℕ) (z : ℤ) (s : State) → Keeps d s (put 0 z s)
put_fault_keeps d z s = record { v = refl; f = refl; size = length-set s.vars 0 z; below = λ j some below. other_stays s.vars 0 j z (λ e. omega (arith, e, some)) }

pub put_there : (k : ℕ) (z : ℤ) (s : State) → k < length s.vars → slice_get (put k z s).vars k ≡ Some z
put_there k z s h = own_changes s.vars k z h

pub put_other : (k j : ℕ) (z : ℤ) (s : State) → (k ≡ j → ⊥) → slice_get (put k z s).vars j ≡ slice_get s.vars j
put_other k j z s h = other_stays s.vars k j z h

module _ (tables : List (List ℤ)) where
  pub set_runs : (k : ℕ) (e : Expr) (z : ℤ) (s : State) → value tables s e ≡ Some z → k < length s.vars → run tables (set_var k e) s ≡ Some (put k z s)
  set_runs k e z s is inside = rw is (put_runs k z s inside)

  -- the number of an expression
  pub set_leaves : (d : ℕ) (e : Expr) (z : ℤ) (s : State) → value tables s e ≡ Some z → fits_64 z ≡ true → 0 < d → d < length s.vars → IsSound s → Leaves tables (set_var d e ∷ []) d s (Ok z)
  set_leaves d e z s is fits some inside sound = record {
    end = put d z s;
    runs = ap (option_and_then (run_all tables no_stmts)) (set_runs d e z s is inside);
    keeps = put_keeps d d z s (omega arith);
    holds = (put_there d z s inside, fits, put_other d 0 z s (λ e. omega (arith, e, some)) ∙ sound);
  }

  -- a fault
  pub fail_leaves : (d : ℕ) (kind : Kind) (s : State) → 0 < length s.vars → Leaves tables (fail kind ∷ []) d s (Err kind)
  fail_leaves d kind s some = record {
    end = put 0 (pos (kind_number kind)) s;
    runs = ap (option_and_then (run_all tables no_stmts)) (set_runs 0 (number (pos (kind_number kind))) (pos (kind_number kind)) s refl some);
    keeps = put_fault_keeps d (pos (kind_number kind)) s;
    holds = put_there 0 (pos (kind_number kind)) s some;
  }

  -- nothing
  pub nothing_leaves : (d : ℕ) (z : ℤ) (s : State) → Holds s d (Ok z) → Leaves tables [] d s (Ok z)
  nothing_leaves d z s there = record { end = s; runs = refl; keeps = keeps_all d s; holds = there }

  -- ---- tests

  -- an operator between two expressions
  pub between_is : (op : COp) (l r : Expr) (a b : ℤ) (s : State) → value tables s l ≡ Some a → value tables s r ≡ Some b → value tables s (between op l r) ≡ applied op a b
  between_is op l r a b s left right = rw (left, right) refl

  pub ended : (r : Option State) → option_and_then (run_all tables no_stmts) r ≡ r
  ended None = refl
  ended (Some s) = refl

  -- the first of two
  pub first_leaves : (test : Expr) (first second : List Stmt) (d : ℕ) (s : State) (r : Result ℤ Kind) → value tables s test ≡ Some (pos 1) → Leaves tables first d s r → Leaves tables (either test first second) d s r
  first_leaves test first second d s r is l = record { end = l.end; runs = rw is (ended (run_all tables (stmts first) s) ∙ l.runs); keeps = l.keeps; holds = l.holds }

  -- the second of two
  pub second_leaves : (test : Expr) (first second : List Stmt) (d : ℕ) (s : State) (r : Result ℤ Kind) → value tables s test ≡ Some (pos 0) → Leaves tables second d s r → Leaves tables (either test first second) d s r
  second_leaves test first second d s r is l = record { end = l.end; runs = rw is (ended (run_all tables (stmts second) s) ∙ l.runs); keeps = l.keeps; holds = l.holds }

  -- by a number that isn't 0
  pub number_leaves : (test : Expr) (first second : List Stmt) (d : ℕ) (s : State) (p q : Result ℤ Kind) (z : ℤ) → value tables s test ≡ Some z → Leaves tables first d s p → Leaves tables second d s q
      → Leaves tables (either test first second) d s (if is_zero z then q else p)
  number_leaves test first second d s p q z is l m = by_zero (is_zero z) refl
    where
      by_zero : (t : Bool) → is_zero z ≡ t → Leaves tables (either test first second) d s (if t then q else p)
      by_zero true none = record { end = m.end; runs = rw (is, none) (ended (run_all tables (stmts second) s) ∙ m.runs); keeps = m.keeps; holds = m.holds }
      by_zero false some = record { end = l.end; runs = rw (is, some) (ended (run_all tables (stmts first) s) ∙ l.runs); keeps = l.keeps; holds = l.holds }

  -- either, by the test
  pub either_leaves : (test : Expr) (first second : List Stmt) (d : ℕ) (s : State) (r : Result ℤ Kind) (b : Bool) → value tables s test ≡ Some (truth b)
      → (b ≡ true → Leaves tables first d s r) → (b ≡ false → Leaves tables second d s r) → Leaves tables (either test first second) d s r
  either_leaves test first second d s r true is f g = first_leaves test first second d s r is (f refl)
  either_leaves test first second d s r false is f g = second_leaves test first second d s r is (g refl)

  -- ---- statements that are left out where there is a fault

  pub guard_runs : (body : List Stmt) (s : State) → IsSound s → run tables (guard body) s ≡ run_all tables (stmts body) s
  guard_runs body s sound = rw sound refl

  pub guard_skips : (body : List Stmt) (s : State) (kind : Kind) → slice_get s.vars 0 ≡ Some (pos (kind_number kind)) → run tables (guard body) s ≡ Some s
  guard_skips body s Overflow fault = rw fault refl
  guard_skips body s Divide fault = rw fault refl
  guard_skips body s Index fault = rw fault refl
  guard_skips body s Range fault = rw fault refl

  -- one part and then another
  pub then_leaves : {A : Type 0} (first second : List Stmt) (d : ℕ) (s t : State) (x : A) (f : A → Result ℤ Kind) → run_all tables (stmts first) s ≡ Some t → Keeps d s t → IsSound t → Leaves tables second d t (f x)
      → Leaves tables (then_do first second) d s (f x)
  then_leaves first second d s t x f runs keeps sound l = record {
    end = l.end;
    runs = parts_follow tables first (guard second ∷ []) s ∙ (ap (option_and_then (run_all tables (stmts (guard second ∷ [])))) runs ∙ (ended (run tables (guard second) t) ∙ (guard_runs second t sound ∙ l.runs)));
    keeps = keeps_then d s t l.end keeps l.keeps;
    holds = l.holds;
  }

  -- one part that is a fault
  pub then_faults : (first second : List Stmt) (d : ℕ) (s t : State) (kind : Kind) → run_all tables (stmts first) s ≡ Some t → Keeps d s t → slice_get t.vars 0 ≡ Some (pos (kind_number kind))
      → Leaves tables (then_do first second) d s (Err kind)
  then_faults first second d s t kind runs keeps fault = record {
    end = t;
    runs = parts_follow tables first (guard second ∷ []) s ∙ (ap (option_and_then (run_all tables (stmts (guard second ∷ [])))) runs ∙ (ended (run tables (guard second) t) ∙ guard_skips second t kind fault));
    keeps = keeps;
    holds = fault;
  }

  -- a part from variable e on, and then another by the number that it leaves
  pub follow_leaves : (first second : List Stmt) (d e : ℕ) (s : State) (r : Result ℤ Kind) (f : ℤ → Result ℤ Kind) → d ≤ e → Leaves tables first e s r
      → ((z : ℤ) (t : State) → r ≡ Ok z → Keeps e s t → Holds t e (Ok z) → Leaves tables second d t (f z)) → Leaves tables (then_do first second) d s (r >>= f)
  follow_leaves first second d e s (Ok z) f le l next =
      then_leaves first second d s l.end z f l.runs (keeps_less d e s l.end le l.keeps) l.holds.2 (next z l.end refl l.keeps l.holds)
  follow_leaves first second d e s (Err kind) f le l next = then_faults first second d s l.end kind l.runs (keeps_less d e s l.end le l.keeps) l.holds

  -- a variable takes a number, and then the rest
  pub set_first : (k : ℕ) (e : Expr) (z : ℤ) (rest : List Stmt) (d : ℕ) (s : State) (r : Result ℤ Kind) → value tables s e ≡ Some z → k < length s.vars → d ≤ k → Leaves tables rest d (put k z s) r
      → Leaves tables (set_var k e ∷ rest) d s r
  set_first k e z rest d s r is inside le l = record {
    end = l.end;
    runs = ap (option_and_then (run_all tables (stmts rest))) (set_runs k e z s is inside) ∙ l.runs;
    keeps = keeps_then d s (put k z s) l.end (put_keeps d k z s le) l.keeps;
    holds = l.holds;
  }
