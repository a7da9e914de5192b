-- A run in one order comes to its end or is stuck at one step.
use Rattle.std.specs.Prelude.{◌≡◌, ℕ, zero, suc, ◌+◌, ◌<◌, List, [], ◌∷◌, replicate, take, slice_get, Option, Some, None, option_and_then, ◌⊎◌}
use Rattle.std.proofs.Common.{subst, sym, refl, ap, arith, ◌∙◌, inl, inr}
use Rattle.aol_csyn.specs.Tree.{Program}
use Rattle.aol_csyn.specs.Meaning.{Arrays, worker_run, level_run, levels_run}
use Rattle.aol_cexec.specs.Exec.{workers_in, orders_in, IsStuckAt, Executed, Ended, Stopped, Executes, RunIsDecided}
use Rattle.aol_cexec.specs.declared.order.Order.{Order}

module _ (p : Program) where
  -- ---- one level

  record StuckIn (level : ℕ) (order : List ℕ) (a : Arrays) : Type 0 where
    place : ℕ
    worker : ℕ
    at : slice_get order place ≡ Some worker
    reached : Arrays
    before : level_run p level (take place order) a ≡ Some reached
    stuck : worker_run p level worker reached ≡ None

  abbrev EndsIn : ℕ → List ℕ → Arrays → Type 0
  EndsIn level order a = (end : Arrays) × (level_run p level order a ≡ Some end)

  by_step : (level w : ℕ) (order : List ℕ) (a : Arrays) (r : Option Arrays) → worker_run p level w a ≡ r → ((b : Arrays) → EndsIn level order b ⊎ StuckIn level order b) → EndsIn level (w ∷ order) a ⊎ StuckIn level (w ∷ order) a
  by_step level w order a None h again = inr (record { place = 0; worker = w; at = refl; reached = a; before = refl; stuck = h })
  by_step level w order a (Some b) h again = elim (again b) [
    | inl e ↦ inl (e.0, ap (option_and_then (level_run p level order)) h ∙ e.1)
    | inr s ↦ inr (record { place = suc s.place; worker = s.worker; at = s.at; reached = s.reached; before = ap (option_and_then (level_run p level (take s.place order))) h ∙ s.before; stuck = s.stuck })
  ]

  level_case : (level : ℕ) (order : List ℕ) (a : Arrays) → EndsIn level order a ⊎ StuckIn level order a
  level_case level [] a = inl (a, refl)
  level_case level (w ∷ order) a = by_step level w order a (worker_run p level w a) refl (level_case level order)

  -- a level that is stuck has no end
  none_then : {X Y : Type 0} (f g : X → Option Y) (r : Option X) (b : Y) → ((x : X) → f x ≡ Some b → g x ≡ None) → option_and_then f r ≡ Some b → option_and_then g r ≡ None
  none_then f g None b again h = refl
  none_then f g (Some x) b again h = again x h

  no_end : (level : ℕ) (order : List ℕ) (a b : Arrays) (i w : ℕ) → slice_get order i ≡ Some w → level_run p level (take i order) a ≡ Some b → worker_run p level w b ≡ None → level_run p level order a ≡ None
  no_end level [] a b i w at before stuck = absurd (cc)
  no_end level (x ∷ order) a b zero w at before stuck =
      let same : x ≡ w = cc in let here : a ≡ b = cc in
      ap (option_and_then (level_run p level order)) (ap (λ z. worker_run p level z a) same ∙ (ap (worker_run p level w) here ∙ stuck))
  no_end level (x ∷ order) a b (suc i) w at before stuck =
      none_then (level_run p level (take i order)) (level_run p level order) (worker_run p level x a) b (λ c h. no_end level order c b i w at h stuck) before

  -- and it is stuck at one worker
  one_then : {X Y : Type 0} (f g : X → Option Y) (r : Option X) (b c : Y) (P : Type 0) → ((x : X) → f x ≡ Some b → g x ≡ Some c → P) → option_and_then f r ≡ Some b → option_and_then g r ≡ Some c → P
  one_then f g None b c P again h k = absurd (cc)
  one_then f g (Some x) b c P again h k = again x h k

  not_past : {X Y : Type 0} (f : X → Option Y) (r : Option X) (b : Y) → r ≡ None → option_and_then f r ≡ Some b → ⊥
  not_past f None b h k = absurd (cc)
  not_past f (Some x) b h k = absurd (cc)

  stuck_here : (level x w : ℕ) (a b : Arrays) → Some x ≡ Some w → Some a ≡ Some b → worker_run p level w b ≡ None → worker_run p level x a ≡ None
  stuck_here level x w a b h k stuck = let same : x ≡ w = cc in let here : a ≡ b = cc in ap (λ z. worker_run p level z a) same ∙ (ap (worker_run p level w) here ∙ stuck)

  one_worker : (level : ℕ) (order : List ℕ) (a b c : Arrays) (i j w v : ℕ) → slice_get order i ≡ Some w → slice_get order j ≡ Some v → level_run p level (take i order) a ≡ Some b → level_run p level (take j order) a ≡ Some c
      → worker_run p level w b ≡ None → worker_run p level v c ≡ None → w ≡ v
  one_worker level [] a b c i j w v h k f g s t = absurd (cc)
  one_worker level (x ∷ order) a b c zero zero w v h k f g s t = cc
  one_worker level (x ∷ order) a b c zero (suc j) w v h k f g s t = absurd (not_past (level_run p level (take j order)) (worker_run p level x a) c (stuck_here level x w a b h f s) g)
  one_worker level (x ∷ order) a b c (suc i) zero w v h k f g s t = absurd (not_past (level_run p level (take i order)) (worker_run p level x a) b (stuck_here level x v a c k g t) f)
  one_worker level (x ∷ order) a b c (suc i) (suc j) w v h k f g s t =
      one_then (level_run p level (take i order)) (level_run p level (take j order)) (worker_run p level x a) b c (w ≡ v) (λ d f g. one_worker level order d b c i j w v h k f g s t) f g

  -- ---- all levels

  module _ (order : List ℕ) where
    -- so many levels in this order, from one on
    abbrev run : ℕ → ℕ → Arrays → Option Arrays
    run level many a = levels_run p level (replicate many order) a

    record StuckAmong (level many : ℕ) (a : Arrays) : Type 0 where
      above : ℕ
      within : above < many
      opening : Arrays
      before : run level above a ≡ Some opening
      here : ℕ
      is_here : here ≡ level + above
      stuck : StuckIn here order opening

    abbrev EndsAll : ℕ → ℕ → Arrays → Type 0
    EndsAll level many a = (end : Arrays) × (run level many a ≡ Some end)

    by_level : (level many : ℕ) (a : Arrays) → EndsIn level order a ⊎ StuckIn level order a → ((b : Arrays) → EndsAll (level + 1) many b ⊎ StuckAmong (level + 1) many b) → EndsAll level (suc many) a ⊎ StuckAmong level (suc many) a
    by_level level many a (inr s) again = inr (record { above = 0; within = omega arith; opening = a; before = refl; here = level; is_here = omega arith; stuck = s })
    by_level level many a (inl b) again = elim (again b.0) [
      | inl e ↦ inl (e.0, ap (option_and_then (run (level + 1) many)) b.1 ∙ e.1)
      | inr s ↦
          let near = s.within in let place = s.is_here in
          inr (record { above = suc s.above; within = omega (arith, near); opening = s.opening; before = ap (option_and_then (run (level + 1) s.above)) b.1 ∙ s.before; here = s.here; is_here = omega (arith, place); stuck = s.stuck })
    ]

    all_cases : (many level : ℕ) (a : Arrays) → EndsAll level many a ⊎ StuckAmong level many a
    all_cases zero level a = inl (a, refl)
    all_cases (suc many) level a = by_level level many a (level_case level order a) (all_cases many (level + 1))

    no_end_all : (many level above here : ℕ) (a b c : Arrays) (i w : ℕ) → above < many → run level above a ≡ Some b → here ≡ level + above
        → slice_get order i ≡ Some w → level_run p here (take i order) b ≡ Some c → worker_run p here w c ≡ None → run level many a ≡ None
    no_end_all zero level above here a b c i w h f e at before stuck = absurd (omega (arith, h))
    no_end_all (suc many) level zero here a b c i w h f e at before stuck =
        let same : a ≡ b = cc in let place : here ≡ level = omega (arith, e) in
        ap (option_and_then (run (level + 1) many))
        (subst (λ l. level_run p l order a ≡ None) place (no_end here order a c i w at (subst (λ z. level_run p here (take i order) z ≡ Some c) (sym same) before) stuck))
    no_end_all (suc many) level (suc above) here a b c i w h f e at before stuck =
        none_then (run (level + 1) above) (run (level + 1) many) (level_run p level order a) b
        (λ d g. no_end_all many (level + 1) above here d b c i w (omega (arith, h)) g (omega (arith, e)) at before stuck) f

    ends_none : (level here : ℕ) (a b c : Arrays) (i w : ℕ) → here ≡ level → run level 0 a ≡ Some b → slice_get order i ≡ Some w → level_run p here (take i order) b ≡ Some c → worker_run p here w c ≡ None → level_run p level order a ≡ None
    ends_none level here a b c i w e f at before stuck =
        let same : b ≡ a = cc in
        subst (λ l. level_run p l order a ≡ None) e (no_end here order a c i w at (subst (λ z. level_run p here (take i order) z ≡ Some c) same before) stuck)

    -- the levels that two stuck runs have passed
    one_level : (above other level la lb : ℕ) (a b c d e : Arrays) (i j w v : ℕ) → la ≡ level + above → lb ≡ level + other → run level above a ≡ Some b → run level other a ≡ Some c → slice_get order i ≡ Some w → slice_get order j ≡ Some v
        → level_run p la (take i order) b ≡ Some d → level_run p lb (take j order) c ≡ Some e → worker_run p la w d ≡ None → worker_run p lb v e ≡ None → (above ≡ other) × (w ≡ v)
    one_level zero zero level la lb a b c d e i j w v x y f g h k m n s t =
        let same : c ≡ b = cc in let place : lb ≡ la = omega (arith, x, y) in
        (refl, one_worker la order b d e i j w v h k m (subst (λ z. level_run p la (take j order) z ≡ Some e) same (subst (λ l. level_run p l (take j order) c ≡ Some e) place n)) s (subst (λ l. worker_run p l v e ≡ None) place t))
    one_level zero (suc other) level la lb a b c d e i j w v x y f g h k m n s t = absurd (not_past (run (level + 1) other) (level_run p level order a) c (ends_none level la a b d i w (omega (arith, x)) f h m s) g)
    one_level (suc above) zero level la lb a b c d e i j w v x y f g h k m n s t = absurd (not_past (run (level + 1) above) (level_run p level order a) b (ends_none level lb a c e j v (omega (arith, y)) g k n t) f)
    one_level (suc above) (suc other) level la lb a b c d e i j w v x y f g h k m n s t =
        one_then (run (level + 1) above) (run (level + 1) other) (level_run p level order a) b c ((suc above ≡ suc other) × (w ≡ v))
        (λ z f g. let rest = one_level above other (level + 1) la lb z b c d e i j w v (omega (arith, x)) (omega (arith, y)) f g h k m n s t in (ap (λ q. suc q) rest.0, rest.1)) f g

front_same : (many k : ℕ) (order : List ℕ) → k < many → take k (replicate many order) ≡ replicate k order
front_same zero k order h = absurd (omega (arith, h))
front_same (suc many) zero order h = refl
front_same (suc many) (suc k) order h = ap (λ z. order ∷ z) (front_same many k order (omega (arith, h)))

module _ (p : Program) (order : Order) (a : Arrays) where
  abbrev ws : List ℕ
  ws = workers_in order p.workers

  abbrev Case : Type 0
  Case = EndsAll p ws 0 p.levels a ⊎ StuckAmong p ws 0 p.levels a

  answer_of : Case → Executed
  answer_of (inl e) = Ended e.0
  answer_of (inr s) = Stopped s.here s.stuck.worker

  levels_of : (level : ℕ) (opening : Arrays) → level < p.levels → levels_run p 0 (take level (orders_in order p)) a ≡ Some opening → run p ws 0 level a ≡ Some opening
  levels_of level opening h e = ap (λ o. levels_run p 0 o a) (sym (front_same p.levels level ws h)) ∙ e

  executes_it : (c : Case) → Executes p order a (answer_of c)
  unfolding answer_of
  executes_it (inl e) = e.1
  executes_it (inr s) =
      let near = s.within in let place = s.is_here in let here : s.here ≡ s.above = omega (arith, place) in
      record {
        at_level = omega (arith, near, here);
        opening = s.opening;
        levels_before = ap (λ l. levels_run p 0 (take l (orders_in order p)) a) here ∙ (ap (λ o. levels_run p 0 o a) (front_same p.levels s.above ws near) ∙ s.before);
        inside = record {
          place = s.stuck.place;
          at_worker = s.stuck.at;
          reached = s.stuck.reached;
          workers_before = s.stuck.before;
          stuck = s.stuck.stuck;
        };
      }

  never_both : (end : Arrays) (level worker : ℕ) → run p ws 0 p.levels a ≡ Some end → IsStuckAt p order a level worker → ⊥
  never_both end level worker e s =
      let none = no_end_all p ws p.levels 0 level level a s.opening s.inside.reached s.inside.place worker s.at_level (levels_of level s.opening s.at_level s.levels_before) (omega arith) s.inside.at_worker s.inside.workers_before s.inside.stuck in
      absurd (cc)

  one_answer : (c : Case) (other : Executed) → Executes p order a other → other ≡ answer_of c
  unfolding answer_of
  one_answer (inl e) (Ended end) h = let both : Some end ≡ Some e.0 = sym h ∙ e.1 in cc
  one_answer (inl e) (Stopped level worker) h = absurd (never_both e.0 level worker e.1 h)
  one_answer (inr s) (Ended end) h = absurd (never_both end s.here s.stuck.worker h (executes_it (inr s)))
  one_answer (inr s) (Stopped level worker) h =
      let place = s.is_here in
      let same = one_level p ws level s.above 0 level s.here a h.opening s.opening h.inside.reached s.stuck.reached h.inside.place s.stuck.place worker s.stuck.worker (omega arith) place
      (levels_of level h.opening h.at_level h.levels_before) s.before h.inside.at_worker s.stuck.at h.inside.workers_before s.stuck.before h.inside.stuck s.stuck.stuck in
      let here : level ≡ s.here = omega (arith, place, same.0) in
      ap (λ l. Stopped l worker) here ∙ ap (λ w. Stopped s.here w) same.1

pub run_is_decided : RunIsDecided
run_is_decided p order a =
    let c = all_cases p (workers_in order p.workers) p.levels 0 a in
    record { answer = answer_of p order a c; executes = executes_it p order a c; one = one_answer p order a c }
