-- A step changes only what it puts.
use Rattle.std.specs.Prelude.{◌≡◌, ℕ, zero, suc, ◌<◌, ◌⊎◌, ℤ, pos, negsuc, ◌+ℤ◌, Bool, true, false, List, [], ◌∷◌, ◌++◌, length, slice_get, slice_set, nat_lt, Option, Some, None, option_map, option_and_then, if◌then◌else◌}
use Rattle.std.proofs.Common.{refl, sym, ap, subst, arith, ◌∙◌, inl, inr}
use Rattle.std.proofs.lemmas.List.{length-set}
use Rattle.aol_csyn.specs.Tree.{Stmt, set_var, put_v, put_f, if_else, for_each, Stmts, no_stmts, stmt_and, Step}
use Rattle.aol_csyn.specs.Meaning.{State, value, is_zero, changed, changed_at, with_v, with_f, with_vars, with_var, turns, turn_count, run, run_all, Arrays, arrays_of, step_start, step_run}
use Rattle.aol_csyn.specs.Puts.{Cell, of_v, of_f, cell_at, from_state, turn_puts, chosen, puts, all_puts, step_puts, IsOne, ChangesOnly, StepsChangeWhatTheyPut}

-- ---- lists of places

left_one : (c : Cell) (xs ys : List Cell) → IsOne c xs → IsOne c (xs ++ ys)
left_one c [] ys h = absurd h
left_one c (x ∷ xs) ys (inl e) = inl e
left_one c (x ∷ xs) ys (inr h) = inr (left_one c xs ys h)

right_one : (c : Cell) (xs ys : List Cell) → IsOne c ys → IsOne c (xs ++ ys)
right_one c [] ys h = h
right_one c (x ∷ xs) ys h = inr (right_one c xs ys h)

-- ---- changes

kept : (a : Arrays) → ChangesOnly a a []
kept a = record { v_length = refl; f_length = refl; v_kept = λ k h. refl; f_kept = λ k h. refl }

one_after : (a b c : Arrays) (xs ys : List Cell) → ChangesOnly a b xs → ChangesOnly b c ys → ChangesOnly a c (xs ++ ys)
one_after a b c xs ys p q = record {
  v_length = q.v_length ∙ p.v_length;
  f_length = q.f_length ∙ p.f_length;
  v_kept = λ k h. q.v_kept k (λ one. h (right_one (of_v k) xs ys one)) ∙ p.v_kept k (λ one. h (left_one (of_v k) xs ys one));
  f_kept = λ k h. q.f_kept k (λ one. h (right_one (of_f k) xs ys one)) ∙ p.f_kept k (λ one. h (left_one (of_f k) xs ys one));
}

-- ---- what an answer comes from

was_some : {X Y : Type 0} (f : X → Option Y) (r : Option X) (y : Y) → option_and_then f r ≡ Some y → (x : X) × (r ≡ Some x) × (f x ≡ Some y)
was_some f None y h = absurd (cc)
was_some f (Some x) y h = (x, refl, h)

was_map : {X Y : Type 0} (f : X → Y) (r : Option X) (y : Y) → option_map f r ≡ Some y → (x : X) × (r ≡ Some x) × (f x ≡ y)
was_map f None y h = absurd (cc)
was_map f (Some x) y h = (x, refl, cc)

was_changed : (xs ys : List ℤ) (k : ℕ) (z : ℤ) (t : Bool) → (if t then Some (slice_set xs k z) else None) ≡ Some ys → slice_set xs k z ≡ ys
was_changed xs ys k z true h = cc
was_changed xs ys k z false h = absurd (cc)

other_kept : (xs : List ℤ) (k j : ℕ) (z : ℤ) → (k ≡ j → ⊥) → slice_get (slice_set xs k z) j ≡ slice_get xs j
other_kept [] k j z h = refl
other_kept (x ∷ xs) zero zero z h = absurd (h refl)
other_kept (x ∷ xs) zero (suc j) z h = refl
other_kept (x ∷ xs) (suc k) zero z h = refl
other_kept (x ∷ xs) (suc k) (suc j) z h = other_kept xs k j z (λ e. h (ap (λ n. suc n) e))

-- a list changed at an index
record Changed (old new : List ℤ) (array : ℕ → Cell) (index : ℤ) : Type 0 where
  size : length new ≡ length old
  same : (k : ℕ) → (IsOne (array k) (cell_at array (Some index)) → ⊥) → slice_get new k ≡ slice_get old k

change_at : (xs ys : List ℤ) (array : ℕ → Cell) (index z : ℤ) → changed_at xs index z ≡ Some ys → Changed xs ys array index
change_at xs ys array (pos k) z h =
    let here = was_changed xs ys k z (nat_lt k (length xs)) h in record {
      size = ap length (sym here) ∙ length-set xs k z;
      same = λ j apart. ap (λ l. slice_get l j) (sym here) ∙ other_kept xs k j z (λ e. apart (inl (ap array e)));
    }
change_at xs ys array (negsuc k) z h = absurd (cc)

-- ---- statements

module _ (tables : List (List ℤ)) where
  abbrev Right : (State → Option State) → (State → List Cell) → Type 0
  Right does cells = (s t : State) → does s ≡ Some t → ChangesOnly (arrays_of s) (arrays_of t) (cells s)

  var_kept : (k : ℕ) (z : ℤ) (s t : State) → with_var k z s ≡ Some t → arrays_of s ≡ arrays_of t
  var_kept k z s t h = let from = was_map (with_vars s) (changed s.vars k z) t h in ap arrays_of from.2

  turns_right : (n k : ℕ) (z : ℤ) (body : State → Option State) (cells : State → List Cell) → Right body cells → Right (turns n k z body) (turn_puts n k z body cells)
  turns_right zero k z body cells again s t h = let same : s ≡ t = cc in subst (λ u. ChangesOnly (arrays_of s) (arrays_of u) []) same (kept (arrays_of s))
  turns_right (suc n) k z body cells again s t h =
      let turn = was_some (turns n k (z +ℤ pos 1) body) (option_and_then body (with_var k z s)) t h in
      let begun = was_some body (with_var k z s) turn.0 turn.1 in
      let one = again begun.0 turn.0 begun.2 in
      let rest = turns_right n k (z +ℤ pos 1) body cells again turn.0 t turn.2 in
      let all = one_after (arrays_of begun.0) (arrays_of turn.0) (arrays_of t) (cells begun.0) (turn_puts n k (z +ℤ pos 1) body cells turn.0) one rest in
      let ended = ap (λ r. cells begun.0 ++ from_state (turn_puts n k (z +ℤ pos 1) body cells) r) begun.2 in
      let from = ap (from_state (λ u. cells u ++ from_state (turn_puts n k (z +ℤ pos 1) body cells) (body u))) begun.1 in
      subst (λ a. ChangesOnly a (arrays_of t) (turn_puts (suc n) k z body cells s)) (sym (var_kept k z s begun.0 begun.1))
      (subst (λ cs. ChangesOnly (arrays_of begun.0) (arrays_of t) cs) (sym (from ∙ ended)) all)

  set_right : (k : ℕ) (r : Option ℤ) (s t : State) → option_and_then (λ z. with_var k z s) r ≡ Some t → ChangesOnly (arrays_of s) (arrays_of t) []
  set_right k r s t h =
      let z = was_some (λ z. with_var k z s) r t h in subst (λ a. ChangesOnly (arrays_of s) a []) (var_kept k z.0 s t z.2) (kept (arrays_of s))

  put_v_right : (index number : Option ℤ) (s t : State) → option_and_then (λ k. option_and_then (λ z. option_map (with_v s) (changed_at s.v k z)) number) index ≡ Some t
      → ChangesOnly (arrays_of s) (arrays_of t) (cell_at of_v index)
  put_v_right None number s t h = absurd (cc)
  put_v_right (Some k) number s t h =
      let z = was_some (λ z. option_map (with_v s) (changed_at s.v k z)) number t h in
      let xs = was_map (with_v s) (changed_at s.v k z.0) t z.2 in
      let c = change_at s.v xs.0 of_v k z.0 xs.1 in
      subst (λ u. ChangesOnly (arrays_of s) (arrays_of u) (cell_at of_v (Some k))) xs.2 (record { v_length = c.size; f_length = refl; v_kept = c.same; f_kept = λ j apart. refl })

  put_f_right : (index number : Option ℤ) (s t : State) → option_and_then (λ k. option_and_then (λ z. option_map (with_f s) (changed_at s.f k z)) number) index ≡ Some t
      → ChangesOnly (arrays_of s) (arrays_of t) (cell_at of_f index)
  put_f_right None number s t h = absurd (cc)
  put_f_right (Some k) number s t h =
      let z = was_some (λ z. option_map (with_f s) (changed_at s.f k z)) number t h in
      let xs = was_map (with_f s) (changed_at s.f k z.0) t z.2 in
      let c = change_at s.f xs.0 of_f k z.0 xs.1 in
      subst (λ u. ChangesOnly (arrays_of s) (arrays_of u) (cell_at of_f (Some k))) xs.2 (record { v_length = refl; f_length = c.size; v_kept = λ j apart. refl; f_kept = c.same })

  by_choice : (b : Bool) (first second : State → Option State) (xs ys : State → List Cell) → Right first xs → Right second ys → (s t : State) → (if b then second s else first s) ≡ Some t
      → ChangesOnly (arrays_of s) (arrays_of t) (if b then ys s else xs s)
  by_choice true first second xs ys p q s t h = q s t h
  by_choice false first second xs ys p q s t h = p s t h

  if_right : (number : Option ℤ) (first second : State → Option State) (xs ys : State → List Cell) → Right first xs → Right second ys → (s t : State) → option_and_then (λ z. if is_zero z then second s else first s) number ≡ Some t
      → ChangesOnly (arrays_of s) (arrays_of t) (chosen number (xs s) (ys s))
  if_right None first second xs ys p q s t h = absurd (cc)
  if_right (Some z) first second xs ys p q s t h = by_choice (is_zero z) first second xs ys p q s t h

  for_right : (n k : ℕ) (a b : ℤ) (body : State → Option State) (cells : State → List Cell) → Right body cells → Right (λ s. option_and_then (with_var k b) (turns n k a body s)) (turn_puts n k a body cells)
  for_right n k a b body cells again s t h =
      let ended = was_some (with_var k b) (turns n k a body s) t h in
      subst (λ x. ChangesOnly (arrays_of s) x (turn_puts n k a body cells s)) (var_kept k b ended.0 t ended.2) (turns_right n k a body cells again s ended.0 ended.1)

  more_right : (one rest : State → Option State) (xs ys : State → List Cell) → Right one xs → Right rest ys → Right (λ s. option_and_then rest (one s)) (λ s. xs s ++ from_state ys (one s))
  more_right one rest xs ys p q s t h =
      let mid = was_some rest (one s) t h in
      subst (λ cs. ChangesOnly (arrays_of s) (arrays_of t) (xs s ++ cs)) (sym (ap (from_state ys) mid.1))
      (one_after (arrays_of s) (arrays_of mid.0) (arrays_of t) (xs s) (ys mid.0) (p s mid.0 mid.1) (q mid.0 t mid.2))

  mutual
    stmt_right : (st : Stmt) (s t : State) → run tables st s ≡ Some t → ChangesOnly (arrays_of s) (arrays_of t) (puts tables st s)
    stmt_right (set_var k e) s t h = set_right k (value tables s e) s t h
    stmt_right (put_v at e) s t h = put_v_right (value tables s at) (value tables s e) s t h
    stmt_right (put_f at e) s t h = put_f_right (value tables s at) (value tables s e) s t h
    stmt_right (if_else e first second) s t h =
        if_right (value tables s e) (run_all tables first) (run_all tables second) (all_puts tables first) (all_puts tables second) (stmts_right first) (stmts_right second) s t h
    stmt_right (for_each k a b body) s t h = for_right (turn_count a b) k a b (run_all tables body) (all_puts tables body) (stmts_right body) s t h

    stmts_right : (body : Stmts) (s t : State) → run_all tables body s ≡ Some t → ChangesOnly (arrays_of s) (arrays_of t) (all_puts tables body s)
    stmts_right no_stmts s t h = let same : s ≡ t = cc in subst (λ u. ChangesOnly (arrays_of s) (arrays_of u) []) same (kept (arrays_of s))
    stmts_right (stmt_and st rest) s t h = more_right (run tables st) (run_all tables rest) (puts tables st) (all_puts tables rest) (stmt_right st) (stmts_right rest) s t h

pub steps_change_what_they_put : StepsChangeWhatTheyPut
steps_change_what_they_put tables step old new h =
    let end = was_map arrays_of (run_all tables step.body (step_start step old)) new h in
    subst (λ a. ChangesOnly old a (step_puts tables step old)) end.2 (stmts_right tables step.body (step_start step old) end.0 end.1)
