-- Steps of the executor's loops.
use Rattle.std.specs.Prelude.{◌≡◌, Bool, true, false, ℕ, zero, suc, ◌+◌, ◌-◌, ◌<◌, ◌≤◌, ℤ, pos, negsuc, ◌+ℤ◌, ◌<ℤ◌, ◌≤ℤ◌, List, [], ◌∷◌, ◌++◌, length, take, slice_get, replicate, Option, Some, None, option_and_then, Result, Err}
use Rattle.std.specs.Int.{int_gap}
use Rattle.std.specs.List.{range_with_len}
use Rattle.std.proofs.Common.{sym, refl, ap, subst, arith, ◌∙◌, get_or}
use Rattle.std.proofs.Math.IntN.{suc_ℤ, +ℤ_one}
use Rattle.std.proofs.lemmas.Int.{ints}
use Rattle.std.proofs.lemmas.List.{take_more, take_all, take-replicate, get_or-reverse, length-reverse}
use Rattle.std.proofs.lemmas.List.FromFn.{length-range_with_len, get_or-range_with_len}
use Rattle.std.proofs.lemmas.Option.{slice_get-get_or}
use Rattle.aol_csyn.specs.Meaning.{State, Arrays, with_var, turns, turn_count, level_run, worker_run, levels_run}
use Rattle.aol_csyn.specs.Tree.{Program}
use Rattle.aol_cexec.specs.Machine.{Leads}
use Rattle.aol_cexec.specs.Exec.{workers_in, worker_at, orders_in, IsStuckIn}
use Rattle.aol_cexec.specs.Refusals.{IfStuck}
use Rattle.aol_cexec.specs.declared.exec.ExecRefused.{ExecRefused}
use Rattle.aol_cexec.specs.declared.exec.ExecRefused.TheVariants.{Stuck, NoMemory}
use Rattle.aol_cexec.specs.declared.order.Order.{Order}
use Rattle.aol_cexec.specs.declared.order.Order.TheVariants.{Up, Down}

-- ---- turns

gap_after : (a b : ℤ) → a <ℤ b → int_gap a b ≡ suc (int_gap (suc_ℤ a) b)
gap_after (pos a) (pos b) h = omega (arith, ints, h)
gap_after (pos a) (negsuc b) h = absurd (omega (arith, ints, h))
gap_after (negsuc zero) (pos b) h = omega arith
gap_after (negsuc (suc a)) (pos b) h = omega arith
gap_after (negsuc zero) (negsuc b) h = absurd (omega (arith, ints, h))
gap_after (negsuc (suc a)) (negsuc b) h = omega (arith, ints, h)

-- the next turn of a `for`
pub turns-next : (a b : ℤ) → a <ℤ b → turn_count a b ≡ suc (turn_count (a +ℤ pos 1) b)
turns-next a b h = gap_after a b h ∙ ap (λ z. suc (int_gap z b)) (sym (+ℤ_one a))

-- no more turns
pub turns-none : (a b : ℤ) → b ≤ℤ a → turn_count a b ≡ 0
turns-none (pos a) (pos b) h = omega (arith, ints, h)
turns-none (pos a) (negsuc b) h = refl
turns-none (negsuc a) (pos b) h = absurd (omega (arith, ints, h))
turns-none (negsuc a) (negsuc b) h = omega (arith, ints, h)

module _ (k : ℕ) (body : State → Option State) where
  -- a turn that goes through
  pub turn_done : (a b : ℤ) (s t u : State) → a <ℤ b → with_var k a s ≡ Some t → body t ≡ Some u
      → turns (turn_count a b) k a body s ≡ turns (turn_count (a +ℤ pos 1) b) k (a +ℤ pos 1) body u
  turn_done a b s t u h e f =
      ap (λ n. turns n k a body s) (turns-next a b h)
      ∙ ap (λ r. option_and_then (turns (turn_count (a +ℤ pos 1) b) k (a +ℤ pos 1) body) (option_and_then body r)) e
      ∙ ap (option_and_then (turns (turn_count (a +ℤ pos 1) b) k (a +ℤ pos 1) body)) f

  -- a turn whose variable can't be set
  pub turn_unset : (a b : ℤ) (s : State) → a <ℤ b → with_var k a s ≡ None → turns (turn_count a b) k a body s ≡ None
  turn_unset a b s h e =
      ap (λ n. turns n k a body s) (turns-next a b h)
      ∙ ap (λ r. option_and_then (turns (turn_count (a +ℤ pos 1) b) k (a +ℤ pos 1) body) (option_and_then body r)) e

  -- a turn whose body is stuck
  pub turn_stuck : (a b : ℤ) (s t : State) → a <ℤ b → with_var k a s ≡ Some t → body t ≡ None → turns (turn_count a b) k a body s ≡ None
  turn_stuck a b s t h e f =
      ap (λ n. turns n k a body s) (turns-next a b h)
      ∙ ap (λ r. option_and_then (turns (turn_count (a +ℤ pos 1) b) k (a +ℤ pos 1) body) (option_and_then body r)) e
      ∙ ap (option_and_then (turns (turn_count (a +ℤ pos 1) b) k (a +ℤ pos 1) body)) f

-- ---- what a step that may be stuck gives

pub went : {A : Type 0} (r : Option A) (b : Bool) (new : A) → Leads r b new → b ≡ true → r ≡ Some new
went r true new h e = h
went r false new h e = absurd (cc)

stuck_of : (A B : Type 0) (e : ExecRefused) {P Q : ℕ → ℕ → Type 0} → IfStuck {A = A} (Err e) P → ((l w : ℕ) → P l w → Q l w) → IfStuck {A = B} (Err e) Q
stuck_of A B (Stuck level worker) h more = more level worker h
stuck_of A B NoMemory h more = tt

-- a refusal handed on
pub stuck_from : {A B : Type 0} (q : Result A ExecRefused) (r : Result B ExecRefused) (e : ExecRefused) {P Q : ℕ → ℕ → Type 0} → q ≡ Err e → r ≡ Err e → IfStuck q P → ((l w : ℕ) → P l w → Q l w) → IfStuck r Q
stuck_from {A = A} {B = B} q r e {P = P} {Q = Q} was is h more =
    subst (λ x. IfStuck x Q) (sym is) (stuck_of A B e (subst (λ x. IfStuck x P) was h) more)

-- ---- workers of a level

some_again : {A : Type 0} (r : Option A) → option_and_then (λ x. Some x) r ≡ r
some_again None = refl
some_again (Some x) = refl

module _ {A B C : Type 0} where
  -- one more step after others
  pub then_after : (f g : A → Option B) (h : B → Option C) (k : A → Option C) (r : Option A) → ((x : A) → k x ≡ option_and_then h (f x)) → option_and_then k r ≡ option_and_then h (option_and_then f r)
  then_after f g h k None again = refl
  then_after f g h k (Some x) again = again x

module _ (p : Program) (level : ℕ) where
  one-worker : (w : ℕ) (a : Arrays) → level_run p level (w ∷ []) a ≡ worker_run p level w a
  one-worker w a = some_again (worker_run p level w a)

  level-both : (order : List ℕ) (w : ℕ) (a : Arrays) → level_run p level (order ++ w ∷ []) a ≡ option_and_then (worker_run p level w) (level_run p level order a)
  level-both [] w a = one-worker w a
  level-both (x ∷ order) w a =
      then_after (level_run p level order) (level_run p level order) (worker_run p level w) (level_run p level (order ++ w ∷ [])) (worker_run p level x a) (level-both order w)

  -- one more worker at the end
  pub level-more : (order : List ℕ) (w : ℕ) (a b : Arrays) → level_run p level order a ≡ Some b → level_run p level (order ++ w ∷ []) a ≡ worker_run p level w b
  level-more order w a b e = level-both order w a ∙ ap (option_and_then (worker_run p level w)) e

-- ---- the order of the workers

order_long : (order : Order) (n : ℕ) → length (workers_in order n) ≡ n
order_long Up n = length-range_with_len 0 n
order_long Down n = length-reverse (range_with_len 0 n) ∙ length-range_with_len 0 n

order_at : (order : Order) (n place : ℕ) → place < n → get_or (workers_in order n) place 0 ≡ worker_at order n place
order_at Up n place h = get_or-range_with_len 0 n place 0 h ∙ omega arith
order_at Down n place h =
    let long = length-range_with_len 0 n in
    let below : n - 1 - place < n = omega (arith, h) in
    get_or-reverse (range_with_len 0 n) place 0 (omega (arith, h, long))
    ∙ ap (λ m. get_or (range_with_len 0 n) (m - 1 - place) 0) long
    ∙ (get_or-range_with_len 0 n (n - 1 - place) 0 below ∙ omega arith)

module _ (order : Order) (n place : ℕ) where
  pub order_get : place < n → slice_get (workers_in order n) place ≡ Some (worker_at order n place)
  order_get h =
      let long = order_long order n in
      slice_get-get_or (workers_in order n) place 0 (omega (arith, h, long)) ∙ ap (λ w. Some w) (order_at order n place h)

  order_next : place < n → take (place + 1) (workers_in order n) ≡ take place (workers_in order n) ++ worker_at order n place ∷ []
  order_next h =
      let long = order_long order n in
      take_more (workers_in order n) place 0 (omega (arith, h, long)) ∙ ap (λ w. take place (workers_in order n) ++ w ∷ []) (order_at order n place h)

  order_whole : n ≤ place → take place (workers_in order n) ≡ workers_in order n
  order_whole h = let long = order_long order n in take_all place (workers_in order n) (omega (arith, h, long))

module _ (p : Program) (order : Order) (level place worker : ℕ) (a b c : Arrays) where
  -- the next worker has run
  pub worker_done : place < p.workers → worker ≡ worker_at order p.workers place
      → level_run p level (take place (workers_in order p.workers)) a ≡ Some b → worker_run p level worker b ≡ Some c
      → level_run p level (take (place + 1) (workers_in order p.workers)) a ≡ Some c
  worker_done h is before ran =
      ap (λ ws. level_run p level ws a) (order_next order p.workers place h)
      ∙ level-more p level (take place (workers_in order p.workers)) (worker_at order p.workers place) a b before
      ∙ (ap (λ w. worker_run p level w b) (sym is) ∙ ran)

  -- the next worker is stuck
  pub worker_stuck : place < p.workers → worker ≡ worker_at order p.workers place
      → level_run p level (take place (workers_in order p.workers)) a ≡ Some b → worker_run p level worker b ≡ None
      → IsStuckIn p order level worker a
  worker_stuck h is before stuck = record {
    place = place;
    at_worker = order_get order p.workers place h ∙ ap (λ w. Some w) (sym is);
    reached = b;
    workers_before = before;
    stuck = stuck;
  }

  -- all workers have run
  pub workers_done : p.workers ≤ place → level_run p level (take place (workers_in order p.workers)) a ≡ Some b
      → level_run p level (workers_in order p.workers) a ≡ Some b
  workers_done h before = ap (λ ws. level_run p level ws a) (sym (order_whole order p.workers place h)) ∙ before

-- ---- levels

module _ (p : Program) (order : List ℕ) where
  levels-both : (many from : ℕ) (a : Arrays) → levels_run p from (replicate (suc many) order) a ≡ option_and_then (level_run p (from + many) order) (levels_run p from (replicate many order) a)
  levels-both zero from a = some_again (level_run p from order a) ∙ ap (λ l. level_run p l order a) (omega arith)
  levels-both (suc many) from a =
      let next : from + 1 + many ≡ from + suc many = omega arith in
      then_after (levels_run p (from + 1) (replicate many order)) (levels_run p (from + 1) (replicate many order)) (level_run p (from + suc many) order) (levels_run p (from + 1) (replicate (suc many) order))
      (level_run p from order a) (λ b. levels-both many (from + 1) b ∙ ap (λ l. option_and_then (level_run p l order) (levels_run p (from + 1) (replicate many order) b)) next)

module _ (p : Program) (order : Order) (level : ℕ) (a b c : Arrays) where
  front_same : (many : ℕ) → many ≤ p.levels → take many (orders_in order p) ≡ replicate many (workers_in order p.workers)
  front_same many h = take-replicate many p.levels (workers_in order p.workers) h

  -- the next level has run
  pub level_done : level < p.levels → levels_run p 0 (take level (orders_in order p)) a ≡ Some b → level_run p level (workers_in order p.workers) b ≡ Some c
      → levels_run p 0 (take (level + 1) (orders_in order p)) a ≡ Some c
  level_done h before ran =
      let ws = workers_in order p.workers in
      let more : level + 1 ≡ suc level = omega arith in
      ap (λ os. levels_run p 0 os a) (front_same (level + 1) (omega (arith, h)) ∙ ap (λ n. replicate n ws) more)
      ∙ levels-both p ws level 0 a
      ∙ ap (option_and_then (level_run p (0 + level) ws)) (ap (λ os. levels_run p 0 os a) (sym (front_same level (omega (arith, h)))) ∙ before)
      ∙ (ap (λ l. level_run p l ws b) (omega arith) ∙ ran)
