-- The statements of an expression leave its value.
use Rattle.std.specs.Prelude.{◌≡◌, ℕ, zero, suc, ◌+◌, ◌<◌, ◌≤◌, ◌^◌, max, ℤ, pos, negsuc, nat_lt, Bool, true, false, List, [], ◌∷◌, length, slice_get, slice_index, get_or, Option, Some, None, option_and_then, Result, Ok, Err, if◌then◌else◌}
use Rattle.std.proofs.Common.{refl, sym, ap, subst, arith, ◌∙◌}
use Rattle.std.proofs.lemmas.Bool.{lt-ltb, ltb-true, ltb-false}
use Rattle.std.proofs.lemmas.List.{get_or_past}
use Rattle.std.proofs.lemmas.Option.{slice_get-get_or, slice_get_within}
use Rattle.aol_shape.specs.Lists.{same}
use Rattle.aol_shape.specs.Numbers.{fits_64}
use Rattle.aol_expr_tree.specs.declared.value.Kind.{Kind}
use Rattle.aol_expr_tree.specs.Tree.{Tree, num, index, var, read, bin, if_else, sum, Trees, no_trees, tree_and, tree_count}
use Rattle.aol_expr_tree.specs.Meaning.{◌>>=◌, Given, value, values, element, variable as number_of, applied, is_zero, nth_number}
use Rattle.aol_eval.specs.Resolved.{shape_of, start_of}
use Rattle.aol_csyn.specs.Tree.{Expr, num as number, var as variable, Stmt, stmts, no_stmts}
use Rattle.aol_csyn.specs.Meaning.{State, value as value_in, run, run_all}
use Rattle.aol_lower.specs.declared.reads.Reads.{Reads}
use Rattle.aol_lower.specs.Effect.{kind_number, Keeps, IsSound, Holds, Leaves, AreRead, AreShapes, IsGiven}
use Rattle.aol_lower.specs.Lowered.{Setting, nought, guard, either, then_do, operation, element_in, bound_at, point_at, lowered, all_lowered}
use Rattle.aol_lower.specs.Laws.{LoweredLeavesTheValue}
use Rattle.aol_lower.specs.Small.{room, room_of, IsSmall, AreSmall}
use Rattle.aol_lower.proofs.Elements.{HeldFrom, read_kept, element_leaves}
use Rattle.aol_lower.proofs.Operations.{Operands, operation_leaves}
use Rattle.aol_lower.proofs.Rooms.{count_fits, some_room}
use Rattle.aol_lower.proofs.Series.{series_leaves}
use Rattle.aol_lower.proofs.Steps.{keeps_all, keeps_less, keeps_then, set_leaves, number_leaves, guard_runs, guard_skips, then_leaves, then_faults, follow_leaves}

-- ---- bound names

-- a name with its variable, and the number that this holds
pub record Binding : Type 0 where
  pub name : List ℕ
  pub at : ℕ
  pub number : ℤ

-- the variable of each name
abbrev pub placed : List Binding → List (List ℕ × ℕ)
placed [] = []
placed (b ∷ bs) = (b.name, b.at) ∷ placed bs

-- the number of each name
abbrev pub numbered : List Binding → List (List ℕ × ℤ)
numbered [] = []
numbered (b ∷ bs) = (b.name, b.number) ∷ numbered bs

pub record IsBound (d : ℕ) (s : State) (b : Binding) : Type 0 where
  pub some : 0 < b.at
  pub below : b.at < d
  pub there : slice_get s.vars b.at ≡ Some b.number
  pub fits : fits_64 b.number ≡ true

abbrev pub AreBound : List Binding → ℕ → State → Type 0
AreBound [] d s = Unit {0}
AreBound (b ∷ bs) d s = IsBound d s b × AreBound bs d s

bound_kept : (bs : List Binding) (d e : ℕ) (s t : State) → d ≤ e → Keeps d s t → AreBound bs d s → AreBound bs e t
bound_kept [] d e s t le k h = tt
bound_kept (b ∷ bs) d e s t le k h = (record { some = h.0.some; below = omega (arith, h.0.below, le); there = k.below b.at h.0.some h.0.below ∙ h.0.there; fits = h.0.fits }, bound_kept bs d e s t le k h.1)

-- ---- what is given

given_kept : (tables : List (List ℤ)) (reads : Reads) (g : Given) (d e : ℕ) (s t : State) → d ≤ e → Keeps d s t → IsSound t → IsGiven tables reads g d s → IsGiven tables reads g e t
given_kept tables reads g d e s t le k sound h = record {
  sound = sound;
  whole = h.whole;
  fits = h.fits;
  are_read = read_kept tables reads g.nums d s t (omega (arith, h.above)) k h.are_read;
  point = λ j i is. let below = slice_get_within g.at j i is in let p = h.point j i is in (k.below (j + 2) (omega arith) (omega (arith, below, h.above)) ∙ p.0, p.1);
  above = omega (arith, h.above, le);
}

-- ---- names

variable_is : (tables : List (List ℤ)) (bs : List Binding) (x : List ℕ) (d : ℕ) (s : State) → AreBound bs d s
    → (value_in tables s (bound_at (placed bs) x) ≡ Some (number_of (numbered bs) x)) × (fits_64 (number_of (numbered bs) x) ≡ true)
variable_is tables [] x d s h = (refl, refl)
variable_is tables (b ∷ bs) x d s h =
    elim (same b.name x) as (λ t. (value_in tables s (if t then variable b.at else bound_at (placed bs) x) ≡ Some (if t then b.number else number_of (numbered bs) x)) × (fits_64 (if t then b.number else number_of (numbered bs) x) ≡ true))
    [ true ↦ (h.0.there, h.0.fits) | false ↦ variable_is tables bs x d s h.1 ]

point_is : (tables : List (List ℤ)) (reads : Reads) (g : Given) (d k : ℕ) (s : State) → IsGiven tables reads g d s
    → (value_in tables s (point_at (length g.at) k) ≡ Some (pos (slice_index g.at k))) × (fits_64 (pos (slice_index g.at k)) ≡ true)
point_is tables reads g d k s h = by_test (nat_lt k (length g.at)) refl
  where
    by_test : (t : Bool) → nat_lt k (length g.at) ≡ t → (value_in tables s (if t then variable (k + 2) else nought) ≡ Some (pos (slice_index g.at k))) × (fits_64 (pos (slice_index g.at k)) ≡ true)
    by_test true e = let p = h.point k (slice_index g.at k) (slice_get-get_or g.at k 0 (ltb-true k (length g.at) e)) in (p.0, lt-ltb (slice_index g.at k) (2 ^ 63) p.1)
    by_test false e = let none : 0 ≡ slice_index g.at k = sym (get_or_past g.at k 0 (ltb-false k (length g.at) e)) in (ap (λ (n : ℕ). Some (pos n)) none, ap (λ (n : ℕ). fits_64 (pos n)) (sym none))

-- ---- indices one after another

-- the numbers stand in variables one after another, and there is no fault; or there is the first fault
abbrev HoldsAll : State → ℕ → ℕ → Result (List ℤ) Kind → Type 0
HoldsAll s d count (Ok zs) = HeldFrom s d zs × IsSound s × (length zs ≡ count)
HoldsAll s d count (Err kind) = slice_get s.vars 0 ≡ Some (pos (kind_number kind))

record AllLeave (tables : List (List ℤ)) (body : List Stmt) (d count : ℕ) (s : State) (r : Result (List ℤ) Kind) : Type 0 where
  end : State
  runs : run_all tables (stmts body) s ≡ Some end
  keeps : Keeps d s end
  holds : HoldsAll end d count r

module _ (tables : List (List ℤ)) (reads : Reads) (g : Given) (shapes : AreShapes g.ins) where
  abbrev setting : Setting
  setting = record { reads = reads; ins = g.ins; rank = length g.at }

  -- behind a fault they do nothing
  all_skip : (ts : Trees) (bound : List (List ℕ × ℕ)) (d : ℕ) (s : State) (kind : Kind) → slice_get s.vars 0 ≡ Some (pos (kind_number kind)) → run_all tables (stmts (all_lowered setting bound d ts)) s ≡ Some s
  all_skip no_trees bound d s kind fault = refl
  all_skip (tree_and t ts) bound d s kind fault =
      ap (option_and_then (run_all tables (stmts (all_lowered setting bound (d + 1) ts)))) (guard_skips tables (lowered setting bound d t) s kind fault) ∙ all_skip ts bound (d + 1) s kind fault

  -- one index and then the others
  more_leave : (first : List Stmt) (rest : List Stmt) (d count : ℕ) (s t : State) (z : ℤ) (r : Result (List ℤ) Kind) → 0 < d → IsSound s → run_all tables (stmts first) s ≡ Some t → Keeps d s t → Holds t d (Ok z)
      → AllLeave tables rest (d + 1) count t r → AllLeave tables (guard first ∷ rest) d (count + 1) s (r >>= (λ zs. Ok (z ∷ zs)))
  more_leave first rest d count s t z (Ok zs) some sound runs keeps there l = record {
    end = l.end;
    runs = ap (option_and_then (run_all tables (stmts rest))) (guard_runs tables first s sound ∙ runs) ∙ l.runs;
    keeps = keeps_then d s t l.end keeps (keeps_less d (d + 1) t l.end (omega arith) l.keeps);
    holds = ((l.keeps.below d some (omega arith) ∙ there.0, there.1, l.holds.0), l.holds.1, omega (arith, l.holds.2));
  }
  more_leave first rest d count s t z (Err kind) some sound runs keeps there l = record {
    end = l.end;
    runs = ap (option_and_then (run_all tables (stmts rest))) (guard_runs tables first s sound ∙ runs) ∙ l.runs;
    keeps = keeps_then d s t l.end keeps (keeps_less d (d + 1) t l.end (omega arith) l.keeps);
    holds = l.holds;
  }

  -- the first of some indices, by what it leaves, and then the others
  all_by : (t : Tree) (ts : Trees) (bs : List Binding) (d : ℕ) (s : State) (r : Result ℤ Kind) → IsGiven tables reads g d s → Leaves tables (lowered setting (placed bs) d t) d s r
      → ((u : State) → Keeps d s u → IsSound u → AllLeave tables (all_lowered setting (placed bs) (d + 1) ts) (d + 1) (tree_count ts) u (values g (numbered bs) ts))
      → AllLeave tables (guard (lowered setting (placed bs) d t) ∷ all_lowered setting (placed bs) (d + 1) ts) d (tree_count ts + 1) s (r >>= (λ z. values g (numbered bs) ts >>= (λ zs. Ok (z ∷ zs))))
  all_by t ts bs d s (Ok z) h l rest =
      more_leave (lowered setting (placed bs) d t) (all_lowered setting (placed bs) (d + 1) ts) d (tree_count ts) s l.end z (values g (numbered bs) ts) (omega (arith, h.above)) h.sound l.runs l.keeps l.holds
      (rest l.end l.keeps l.holds.2)
  all_by t ts bs d s (Err kind) h l rest = record {
    end = l.end;
    runs = ap (option_and_then (run_all tables (stmts (all_lowered setting (placed bs) (d + 1) ts)))) (guard_runs tables (lowered setting (placed bs) d t) s h.sound ∙ l.runs) ∙ all_skip ts (placed bs) (d + 1) l.end kind l.holds;
    keeps = l.keeps;
    holds = l.holds;
  }

  -- the read behind its indices
  read_leaves : (p : List ℕ) (body : List Stmt) (d count : ℕ) (s : State) (r : Result (List ℤ) Kind) → IsGiven tables reads g d s → d + count < length s.vars → AllLeave tables body d count s r
      → Leaves tables (then_do body (element_in reads (pos (start_of g.ins p)) d count (shape_of g.ins p))) d s (r >>= (λ zs. element g.ins g.nums p zs))
  read_leaves p body d count s (Ok zs) h inside l =
      let i = given_kept tables reads g d d s l.end (omega arith) l.keeps l.holds.1 h in
      let same = l.holds.2 in
      then_leaves tables body (element_in reads (pos (start_of g.ins p)) d count (shape_of g.ins p)) d s l.end zs (λ ns. element g.ins g.nums p ns) l.runs l.keeps l.holds.1
      (subst (λ n. Leaves tables (element_in reads (pos (start_of g.ins p)) d n (shape_of g.ins p)) d l.end (element g.ins g.nums p zs)) same
      (element_leaves tables reads g.nums h.fits d (omega (arith, h.above)) l.end i.are_read zs l.holds.0 (rw (same, l.keeps.size) inside) l.holds.1 g.ins p shapes h.whole))
  read_leaves p body d count s (Err kind) h inside l = then_faults tables body (element_in reads (pos (start_of g.ins p)) d count (shape_of g.ins p)) d s l.end kind l.runs l.keeps l.holds

  -- by the number of a condition
  chosen : (z : ℤ) (d : ℕ) (t : State) (first second : List Stmt) (p q : Result ℤ Kind) → slice_get t.vars d ≡ Some z → Leaves tables first d t p → Leaves tables second d t q
      → Leaves tables (either (variable d) first second) d t (if is_zero z then q else p)
  chosen (pos n) d t first second p q is l m = number_leaves tables (variable d) first second d t p q (pos n) is l m
  chosen (negsuc n) d t first second p q is l m = number_leaves tables (variable d) first second d t p q (negsuc n) is l m

  -- ---- expressions

  mutual
    expr_leaves : (e : Tree) → IsSmall e → (bs : List Binding) (d : ℕ) (s : State) → IsGiven tables reads g d s → AreBound bs d s → d + room e ≤ length s.vars
        → Leaves tables (lowered setting (placed bs) d e) d s (value g (numbered bs) e)
    expr_leaves (num z) small bs d s h b inside = set_leaves tables d (number z) z s refl small (omega (arith, h.above)) (omega (arith, inside)) h.sound
    expr_leaves (index k) small bs d s h b inside =
        let p = point_is tables reads g d k s h in set_leaves tables d (point_at (length g.at) k) (pos (slice_index g.at k)) s p.0 p.1 (omega (arith, h.above)) (omega (arith, inside)) h.sound
    expr_leaves (var x) small bs d s h b inside =
        let v = variable_is tables bs x d s b in set_leaves tables d (bound_at (placed bs) x) (number_of (numbered bs) x) s v.0 v.1 (omega (arith, h.above)) (omega (arith, inside)) h.sound
    expr_leaves (read p at) small bs d s h b inside =
        let count = count_fits at in
        read_leaves p (all_lowered setting (placed bs) d at) d (tree_count at) s (values g (numbered bs) at) h (omega (arith, inside, count)) (exprs_leave at small bs d s h b (omega (arith, inside)))
    expr_leaves (bin op l r) small bs d s h b inside =
        follow_leaves tables (lowered setting (placed bs) d l) (then_do (lowered setting (placed bs) (d + 1) r) (operation op d (d + 1))) d d s (value g (numbered bs) l)
        (λ x. value g (numbered bs) r >>= (λ y. applied op x y)) (omega arith) (expr_leaves l small.0 bs d s h b (omega (arith, inside)))
        (λ x t e k there.
        let again = given_kept tables reads g d (d + 1) s t (omega arith) k there.2 h in
        let bound = bound_kept bs d (d + 1) s t (omega arith) k b in
        let some = some_room r in
        follow_leaves tables (lowered setting (placed bs) (d + 1) r) (operation op d (d + 1)) d (d + 1) t (value g (numbered bs) r) (λ y. applied op x y) (omega arith)
        (expr_leaves r small.1 bs (d + 1) t again bound (rw k.size (omega (arith, inside))))
        (λ y u e2 k2 other. operation_leaves tables d (d + 1) u op x y (record {
          some = omega (arith, h.above);
          inside = rw (k2.size, k.size) (omega (arith, inside, some));
          left = k2.below d (omega (arith, h.above)) (omega arith) ∙ there.0;
          right = other.0;
          left_fits = there.1;
          right_fits = other.1;
          sound = other.2;
        })))
    expr_leaves (if_else q l r) small bs d s h b inside =
        follow_leaves tables (lowered setting (placed bs) d q) (either (variable d) (lowered setting (placed bs) d l) (lowered setting (placed bs) d r)) d d s (value g (numbered bs) q)
        (λ z. if is_zero z then value g (numbered bs) r else value g (numbered bs) l) (omega arith) (expr_leaves q small.0 bs d s h b (omega (arith, inside)))
        (λ z t e k there.
        let again = given_kept tables reads g d d s t (omega arith) k there.2 h in
        let bound = bound_kept bs d d s t (omega arith) k b in
        chosen z d t (lowered setting (placed bs) d l) (lowered setting (placed bs) d r) (value g (numbered bs) l) (value g (numbered bs) r) there.0
        (expr_leaves l small.1 bs d t again bound (rw k.size (omega (arith, inside))))
        (expr_leaves r small.2 bs d t again bound (rw k.size (omega (arith, inside)))))
    expr_leaves (sum x n e) small bs d s h b inside =
        let some = some_room e in
        series_leaves tables d n (lowered setting ((x, d + 1) ∷ placed bs) (d + 2) e) (λ k. value g ((x, k) ∷ numbered bs) e) (omega (arith, h.above)) s (omega (arith, inside, some)) h.sound
        (λ i t below k sound is.
        let own : Binding = record { name = x; at = d + 1; number = pos i } in
        let kept : IsBound (d + 2) t own = record { some = omega arith; below = omega arith; there = is; fits = lt-ltb i (2 ^ 63) (omega (arith, below, small.0)) } in
        expr_leaves e small.1 (own ∷ bs) (d + 2) t (given_kept tables reads g d (d + 2) s t (omega arith) k sound h) (kept, bound_kept bs d (d + 2) s t (omega arith) k b) (rw k.size (omega (arith, inside))))

    exprs_leave : (ts : Trees) → AreSmall ts → (bs : List Binding) (d : ℕ) (s : State) → IsGiven tables reads g d s → AreBound bs d s → d + room_of ts ≤ length s.vars
        → AllLeave tables (all_lowered setting (placed bs) d ts) d (tree_count ts) s (values g (numbered bs) ts)
    exprs_leave no_trees small bs d s h b inside = record { end = s; runs = refl; keeps = keeps_all d s; holds = (tt, h.sound, refl) }
    exprs_leave (tree_and t ts) small bs d s h b inside =
        all_by t ts bs d s (value g (numbered bs) t) h (expr_leaves t small.0 bs d s h b (omega (arith, inside)))
        (λ u k sound. exprs_leave ts small.1 bs (d + 1) u (given_kept tables reads g d (d + 1) s u (omega arith) k sound h) (bound_kept bs d (d + 1) s u (omega arith) k b) (rw k.size (omega (arith, inside))))

pub lowered_leaves_the_value : LoweredLeavesTheValue
lowered_leaves_the_value c d e small shapes tables g s ins rank h inside =
    subst (λ i. Leaves tables (lowered (record { reads = c.reads; ins = i; rank = c.rank }) [] d e) d s (value g [] e)) (sym ins)
    (subst (λ k. Leaves tables (lowered (record { reads = c.reads; ins = g.ins; rank = k }) [] d e) d s (value g [] e)) (sym rank)
    (expr_leaves tables c.reads g (subst AreShapes ins shapes) e small [] d s h tt inside))
