-- That the lines of the steps and of `run` lead on.
use Rattle.std.specs.Prelude.{◌≡◌, ℕ, zero, suc, ◌+◌, ◌*◌, ◌^◌, ◌<◌, ◌≤◌, nat_lt, nat_le, ◌==◌, Bool, true, false, ◌&&◌, not, ℤ, List, [], ◌∷◌, ◌++◌, length, if◌then◌else◌, Option, Some}
use Rattle.std.specs.List.{list_all}
use Rattle.std.proofs.Common.{subst, sym, refl, ap, arith, ◌∙◌, append_assoc, length-append, inl, inr, ◌⊎◌}
use Rattle.std.proofs.lemmas.List.{append-nil}
use Rattle.aol_shape.specs.Numbers.{fits_64}
use Rattle.aol_csyn.specs.Tree.{stmts, Step, Program}
use Rattle.aol_csyn.specs.Form.{stmts_depth, stmts_formed, step_formed, table_formed, IsWellFormed}
use Rattle.aol_cread.specs.Lines.{Line, head_line, type_line, table_line, v_line, f_line, step_line, var_line, close_line, run_line, call_line}
use Rattle.aol_cread.specs.States.{State, program_in}
use Rattle.aol_cread.specs.Next.{where_true, advanced, opened, has_room, second_level, after_between, is_empty, next, nothing_read}
use Rattle.aol_cread.specs.declared.building.Phase.TheVariants.{Start, Headed, Tables, Celled, Between, Inside, Running, Ended}
use Rattle.aol_cread.proofs.Exprs.{both_true, left_true, right_true}
use Rattle.aol_cread.proofs.Shown.{stmts_lines, tables_lines, vars_lines, step_lines, steps_lines, calls_lines, front_lines, program_lines, place}
use Rattle.aol_cread.proofs.Places.{two, next_place, place_more, before_place, level_ends}
use Rattle.aol_cread.proofs.Complete.{Goes, goes_on, goes_to, next_in, where_holds, under, below, self, Open, list_of, listed, StmtsFit, stmts_goes}

-- ---- places

products : (a b w : ℕ) → a ≤ b → a * w ≤ b * w
products a b w h = grind (arith, h)

low_by : (d : Bool) (l m w k n : ℕ) → nat_lt l m ≡ d → l * w + k ≡ n → n < m * w → l < m
low_by true l m w k n is h low = below l m is
low_by false l m w k n is h low = let more = products m l w (grind (arith, is)) in absurd (omega (arith, more, h, low))

level_low : (l m w k n : ℕ) → l * w + k ≡ n → n < m * w → l < m
level_low l m w k n h below = low_by (nat_lt l m) l m w k n refl h below

pub place_level : (w n l k m : ℕ) → 0 < w → place w 0 0 n ≡ two l k → n < m * w → l < m
place_level w n l k m some at below =
    let b = before_place w n 0 0 some in let many = b.many in
    let there : l * w + k ≡ 0 * w + 0 + n = ap (λ (p : ℕ × ℕ). p.0 * w + p.1) (sym at) ∙ many in
    level_low l m w k n (omega (arith, there)) below

pub place_worker : (w n l k : ℕ) → 0 < w → place w 0 0 n ≡ two l k → k < w
place_worker w n l k some at = let b = before_place w n 0 0 some in let low = b.within in let same : (place w 0 0 n).1 ≡ k = ap (λ (p : ℕ × ℕ). p.1) at in omega (arith, low, same)

place_next : (w n l k : ℕ) → place w 0 0 n ≡ two l k → place w 0 0 (suc n) ≡ next_place w (two l k)
place_next w n l k at = place_more w n 0 0 ∙ ap (next_place w) at

-- the place after whole levels
more_product : (l w : ℕ) → (l + 1) * w ≡ l * w + w
more_product l w = grind arith

exact_level : (d e : Bool) (l m w k : ℕ) → nat_lt l m ≡ d → nat_lt m l ≡ e → k < w → l * w + k ≡ m * w → two l k ≡ two m 0
exact_level true e l m w k is is' low h =
    let more = products (l + 1) m w (grind (arith, is)) in let one = more_product l w in absurd (omega (arith, more, one, low, h))
exact_level false true l m w k is is' low h =
    let more = products (m + 1) l w (grind (arith, is')) in let one = more_product m w in absurd (omega (arith, more, one, low, h))
exact_level false false l m w k is is' low h =
    let same : l ≡ m = grind (arith, is, is') in
    let none : k ≡ 0 = omega (arith, h, ap (λ x. x * w) same) in
    ap (λ x. two x k) same ∙ ap (two m) none

exact_by : (l m w k : ℕ) → k < w → l * w + k ≡ m * w → two l k ≡ two m 0
exact_by l m w k low h = exact_level (nat_lt l m) (nat_lt m l) l m w k refl refl low h

pub place_end : (w m : ℕ) → 0 < w → place w 0 0 (m * w) ≡ two m 0
place_end w m some =
    let b = before_place w (m * w) 0 0 some in let many = b.many in let low = b.within in
    let p = place w 0 0 (m * w) in
    exact_by p.0 m w p.1 low (omega (arith, many))

-- the first level
early_test : (d : Bool) (n : ℕ) → d ≡ false → (if d then two (0 + 1) 0 else two 0 (n + 1)) ≡ two 0 (n + 1)
early_test true n h = absurd (cc)
early_test false n h = refl

early_by : (d : Bool) (w n : ℕ) (p : ℕ × ℕ) → (p.1 + 1 == w) ≡ d → p ≡ two 0 n → n + 1 < w → next_place w p ≡ two 0 (n + 1)
early_by d w n p is h low = ap (next_place w) h ∙ early_test (n + 1 == w) n (grind (arith, low))

pub place_first : (n w : ℕ) → n < w → place w 0 0 n ≡ two 0 n
place_first zero w h = refl
place_first (suc n) w h = place_more w n 0 0 ∙ (early_by ((place w 0 0 n).1 + 1 == w) w n (place w 0 0 n) refl (place_first n w (omega (arith, h))) (omega (arith, h)) ∙ ap (two 0) (omega arith))

none_more : (n : ℕ) → n ≡ n + 0
none_more n = omega arith

later : (a n : ℕ) → a + 1 + n ≡ a + suc n
later a n = omega arith

at_most : (a b : ℕ) → nat_le a b ≡ true → a ≤ b
at_most a b h = grind (arith, h)

other : (l a : ℕ) → l ≡ 1 → a ≡ 0 → (l == a) ≡ false
other l a h i = grind (arith, h, i)

differ : (l k a b : ℕ) → l ≡ 1 → a ≡ 0 → (l == a && k == b) ≡ false
differ l k a b h i = ap (λ (t : Bool). t && k == b) (other l a h i)

by_true : (d : Bool) (l k : ℕ) → d ≡ true → (if d then two (l + 1) 0 else two l (k + 1)) ≡ two (l + 1) 0
by_true true l k h = refl
by_true false l k h = absurd (cc)

by_false : (d : Bool) (l k : ℕ) → d ≡ false → (if d then two (l + 1) 0 else two l (k + 1)) ≡ two l (k + 1)
by_false true l k h = absurd (cc)
by_false false l k h = refl

later_suc : (n c : ℕ) → suc n + c ≡ n + suc c
later_suc n c = omega arith

-- ---- variables

vars_go : (n : ℕ) (s : State) → Open s → s.frames ≡ [] → s.here ≡ [] → s.vars + n < 2 ^ 32 → Goes s (vars_lines s.vars n) (record s { vars = s.vars + n })
vars_go zero s o f h few = ap (λ m. record s { vars = m }) (none_more s.vars)
vars_go (suc n) s o f h few =
    let u = record s { vars = s.vars + 1 } in
    let ou : Open u = record { phase = o.phase; vars = omega (arith, few); tables = o.tables } in
    let t = s.vars == s.vars && is_empty s.frames && is_empty s.here && nat_lt (s.vars + 1) (2 ^ 32) in
    let test : t ≡ true = both_true (s.vars == s.vars && is_empty s.frames && is_empty s.here) (nat_lt (s.vars + 1) (2 ^ 32))
    (both_true (s.vars == s.vars && is_empty s.frames) (is_empty s.here) (both_true (s.vars == s.vars) (is_empty s.frames) (self s.vars) (ap is_empty f)) (ap is_empty h)) (under (s.vars + 1) (2 ^ 32) (omega (arith, few))) in (
      u,
      next_in Inside s (var_line s.vars) u o.phase (where_holds t u test),
      omega (arith, few),
      goes_to (vars_lines (s.vars + 1) n) u (record u { vars = s.vars + 1 + n }) (record s { vars = s.vars + suc n }) (ap (λ m. record s { vars = m }) (later s.vars n)) (vars_go n u ou f h (omega (arith, few))),
    )

-- ---- a step

abbrev pub stepped : State → Step → State
stepped s st = advanced (record s { phase = Between; steps = s.steps ++ st ∷ []; vars = st.vars; frames = []; here = [] })

small_step : (tables : ℕ) (st : Step) → step_formed tables st ≡ true → (st.vars < 2 ^ 32) × (stmts_formed st.vars tables st.body ≡ true) × (stmts_depth st.body ≤ 1024)
small_step tables st h =
    let a = nat_lt st.vars (2 ^ 32) in let b = stmts_formed st.vars tables st.body in let c = nat_le (stmts_depth st.body) 1024 in
    let ab = left_true (a && b) c h in
    (below st.vars (2 ^ 32) (left_true a b ab), right_true a b ab, at_most (stmts_depth st.body) 1024 (right_true (a && b) c h))

body_goes : (s : State) (st : Step) → length s.tables < 2 ^ 32 → has_room s ≡ true → step_formed (length s.tables) st ≡ true → Goes (opened s) (vars_lines 0 st.vars ++ (stmts_lines st.body ++ close_line ∷ [])) (stepped s st)
body_goes s st many room formed =
    let f = small_step (length s.tables) st formed in let few = f.0 in let short = f.2 in
    let s1 = opened s in let o1 : Open s1 = record { phase = refl; vars = omega arith; tables = many } in
    let s2 = record s1 { vars = 0 + st.vars } in let o2 : Open s2 = record { phase = refl; vars = omega (arith, few); tables = many } in
    let same : 0 + st.vars ≡ st.vars = omega arith in
    let s3 = record s2 { here = [] ++ list_of st.body } in
    let s4 = advanced (record s3 { phase = Between; steps = s.steps ++ record { vars = 0 + st.vars; body = stmts (list_of st.body) } ∷ []; here = [] }) in
    let fits : StmtsFit s2.vars (length s2.tables) s2.frames st.body = record { formed = subst (λ n. stmts_formed n (length s.tables) st.body ≡ true) (sym same) f.1; depth = omega (arith, short); free = λ k h. absurd (cc) } in
    let done : s4 ≡ stepped s st = ap (λ n. advanced (record s1 { phase = Between; vars = n; steps = s.steps ++ record { vars = n; body = stmts (list_of st.body) } ∷ []; here = [] })) same ∙ ap (λ b. advanced (record s1 { phase = Between; vars = st.vars; steps = s.steps ++ record { vars = st.vars; body = b } ∷ []; here = [] })) (listed st.body) in
    goes_on (vars_lines 0 st.vars) (stmts_lines st.body ++ close_line ∷ []) s1 s2 (stepped s st) (vars_go st.vars s1 o1 refl refl (omega (arith, few)))
    (goes_on (stmts_lines st.body) (close_line ∷ []) s2 s3 (stepped s st) (stmts_goes st.body s2 o2 fits)
    (goes_to (close_line ∷ []) s3 s4 (stepped s st) done (s4, next_in Inside s3 close_line s4 refl (where_holds (has_room s) s4 room), tt, refl)))

-- where a state between steps stands, after so many steps of a program with so many workers
abbrev Stands : State → ℕ → ℕ → Type 0
Stands s w n = ((n ≤ w) × (s.workers ≡ 0) × (s.level ≡ 0) × (s.worker ≡ n)) ⊎ ((w < n) × (s.workers ≡ w) × (place w 0 0 n ≡ two s.level s.worker))

record IsBetween (s : State) (ts : List (List ℤ)) (size : ℕ) (done : List Step) (w n : ℕ) : Type 0 where
  phase : s.phase ≡ Between
  tables : s.tables ≡ ts
  cells : s.cells ≡ size
  steps : s.steps ≡ done
  stands : Stands s w n

-- the state in which a step begins
record Begins (s : State) (l k w n : ℕ) : Type 0 where
  from : State
  same : (from.tables ≡ s.tables) × (from.cells ≡ s.cells) × (from.steps ≡ s.steps)
  goes : after_between s (step_line l k) ≡ Some (opened from)
  room : has_room from ≡ true
  after : (st : Step) → Stands (stepped from st) w (suc n)

test_same : (a b : ℕ) → a ≡ b → (a == b) ≡ true
test_same a b h = grind (arith, h)

by_first : (d : Bool) (x y : Option State) → d ≡ true → (if d then x else y) ≡ x
by_first true x y h = refl
by_first false x y h = absurd (cc)

by_second : (d : Bool) (x y : Option State) → d ≡ false → (if d then x else y) ≡ y
by_second true x y h = absurd (cc)
by_second false x y h = refl

same_place : (s : State) (l k : ℕ) → l ≡ s.level → k ≡ s.worker → has_room s ≡ true → after_between s (step_line l k) ≡ Some (opened s)
same_place s l k h i room =
    by_first (l == s.level && k == s.worker) (where_true (has_room s) (opened s)) (where_true (l == 1 && k == 0 && s.workers == 0 && not (s.worker == 0)) (opened (second_level s))) (both_true (l == s.level) (k == s.worker) (test_same l s.level h) (test_same k s.worker i))
    ∙ where_holds (has_room s) (opened s) room

room_is : (s : State) → s.level + 1 < 2 ^ 32 → s.worker + 1 < 2 ^ 32 → has_room s ≡ true
room_is s h i = both_true (nat_lt (s.level + 1) (2 ^ 32)) (nat_lt (s.worker + 1) (2 ^ 32)) (under (s.level + 1) (2 ^ 32) h) (under (s.worker + 1) (2 ^ 32) i)

-- the place of the state after a step
advanced_place : (d : Bool) (s : State) → (if d then two (s.level + 1) 0 else two s.level (s.worker + 1)) ≡ two (if d then record s { level = s.level + 1; worker = 0 } else record s { worker = s.worker + 1 }).level (if d then record s { level = s.level + 1; worker = 0 } else record s { worker = s.worker + 1 }).worker
advanced_place true s = refl
advanced_place false s = refl

advanced_workers : (d : Bool) (s : State) → (if d then record s { level = s.level + 1; worker = 0 } else record s { worker = s.worker + 1 }).workers ≡ s.workers
advanced_workers true s = refl
advanced_workers false s = refl

later_stands : (s : State) (w n : ℕ) (st : Step) → s.workers ≡ w → place w 0 0 n ≡ two s.level s.worker → w < suc n → Stands (stepped s st) w (suc n)
later_stands s w n st is at past =
    let u = record s { phase = Between; steps = s.steps ++ st ∷ []; vars = st.vars; frames = []; here = [] } in
    inr (
      past,
      advanced_workers (s.worker + 1 == s.workers) u ∙ is,
      place_next w n s.level s.worker at ∙ (ap (λ v. next_place v (two s.level s.worker)) (sym is) ∙ advanced_place (s.worker + 1 == s.workers) u),
    )

early_state : (d : Bool) (u : State) → d ≡ false → (if d then record u { level = u.level + 1; worker = 0 } else record u { worker = u.worker + 1 }) ≡ record u { worker = u.worker + 1 }
early_state true u h = absurd (cc)
early_state false u h = refl

never_zero : (k w : ℕ) → w ≡ 0 → (k + 1 == w) ≡ false
never_zero k w h = grind (arith, h)

first_stands : (s : State) (w n : ℕ) (st : Step) → s.workers ≡ 0 → s.level ≡ 0 → s.worker ≡ n → n < w → Stands (stepped s st) w (suc n)
first_stands s w n st none low is past =
    let u = record s { phase = Between; steps = s.steps ++ st ∷ []; vars = st.vars; frames = []; here = [] } in
    let e = early_state (s.worker + 1 == s.workers) u (never_zero s.worker s.workers none) in
    inl (omega (arith, past), ap (λ (x : State). x.workers) e ∙ none, ap (λ (x : State). x.level) e ∙ low, ap (λ (x : State). x.worker) e ∙ omega (arith, is))

module _ (w m : ℕ) (some : 0 < w) (few : w < 2 ^ 32) (levels : m < 2 ^ 32) where
  begins_early : (s : State) (l k n : ℕ) → n < w → s.workers ≡ 0 → s.level ≡ 0 → s.worker ≡ n → place w 0 0 n ≡ two l k → Begins s l k w n
  begins_early s l k n h none low is at =
      let here : two l k ≡ two 0 n = sym at ∙ place_first n w h in
      let room = room_is s (omega (arith, low)) (omega (arith, is, h, few)) in
      record {
        from = s;
        same = (refl, refl, refl);
        goes = same_place s l k (ap (λ (p : ℕ × ℕ). p.0) here ∙ sym low) (ap (λ (p : ℕ × ℕ). p.1) here ∙ sym is) room;
        room = room;
        after = λ st. first_stands s w n st none low is h;
      }

  begins_second : (s : State) (l k n : ℕ) → n ≡ w → s.workers ≡ 0 → s.level ≡ 0 → s.worker ≡ n → place w 0 0 n ≡ two l k → Begins s l k w n
  begins_second s l k n h none low is at =
      let here : two l k ≡ two 1 0 = sym at ∙ (level_ends w n 0 0 (omega (arith, h, some)) (omega (arith, h)) ∙ ap (λ x. two x 0) (omega arith)) in
      let one : l ≡ 1 = ap (λ (p : ℕ × ℕ). p.0) here in let zero_worker : k ≡ 0 = ap (λ (p : ℕ × ℕ). p.1) here in
      let t = l == 1 && k == 0 && s.workers == 0 && not (s.worker == 0) in
      let test : t ≡ true = both_true (l == 1 && k == 0 && s.workers == 0) (not (s.worker == 0)) (both_true (l == 1 && k == 0) (s.workers == 0) (both_true (l == 1) (k == 0) (test_same l 1 one) (test_same k 0 zero_worker)) (test_same s.workers 0 none)) (grind (arith, is, h, some)) in
      record {
        from = second_level s;
        same = (refl, refl, refl);
        goes = by_second (l == s.level && k == s.worker) (where_true (has_room s) (opened s)) (where_true t (opened (second_level s))) (differ l k s.level s.worker one low) ∙ where_holds t (opened (second_level s)) test;
        room = refl;
        after = λ st. later_stands (second_level s) w n st (omega (arith, is, h)) (at ∙ here) (omega (arith, h));
      }

  begins_later : (s : State) (l k n : ℕ) → w < n → n < m * w → s.workers ≡ w → place w 0 0 n ≡ two s.level s.worker → place w 0 0 n ≡ two l k → Begins s l k w n
  begins_later s l k n h total is at there =
      let here : two l k ≡ two s.level s.worker = sym there ∙ at in
      let low = place_level w n s.level s.worker m some at total in let small = place_worker w n s.level s.worker some at in
      let room = room_is s (omega (arith, low, levels)) (omega (arith, small, few)) in
      record {
        from = s;
        same = (refl, refl, refl);
        goes = same_place s l k (ap (λ (p : ℕ × ℕ). p.0) here) (ap (λ (p : ℕ × ℕ). p.1) here) room;
        room = room;
        after = λ st. later_stands s w n st is at (omega (arith, h));
      }

  by_end : (d : Bool) (s : State) (l k n : ℕ) → nat_lt n w ≡ d → n ≤ w → s.workers ≡ 0 → s.level ≡ 0 → s.worker ≡ n → place w 0 0 n ≡ two l k → Begins s l k w n
  by_end true s l k n d h none low is at = begins_early s l k n (below n w d) none low is at
  by_end false s l k n d h none low is at = begins_second s l k n (grind (arith, d, h)) none low is at

  begins : (s : State) (l k n : ℕ) → n < m * w → Stands s w n → place w 0 0 n ≡ two l k → Begins s l k w n
  begins s l k n total (inr c) at = begins_later s l k n c.0 total c.1 c.2 at
  begins s l k n total (inl c) at = by_end (nat_lt n w) s l k n refl c.0 c.1 c.2 c.3 at

  -- ---- all steps

  record Arrived (s : State) (ls : List Line) (ts : List (List ℤ)) (size : ℕ) (done : List Step) (n : ℕ) : Type 0 where
    last : State
    goes : Goes s ls last
    between : IsBetween last ts size done w n

  keeps : (d : Bool) (u : State) → ((if d then record u { level = u.level + 1; worker = 0 } else record u { worker = u.worker + 1 }).phase ≡ u.phase)
      × ((if d then record u { level = u.level + 1; worker = 0 } else record u { worker = u.worker + 1 }).tables ≡ u.tables)
      × ((if d then record u { level = u.level + 1; worker = 0 } else record u { worker = u.worker + 1 }).cells ≡ u.cells)
      × ((if d then record u { level = u.level + 1; worker = 0 } else record u { worker = u.worker + 1 }).steps ≡ u.steps)
  keeps true u = (refl, refl, refl, refl)
  keeps false u = (refl, refl, refl, refl)

  module _ (ts : List (List ℤ)) (size : ℕ) (many : length ts < 2 ^ 32) where
    one_step : (s : State) (st : Step) (l k n : ℕ) (done : List Step) → place w 0 0 n ≡ two l k → n < m * w → IsBetween s ts size done w n → step_formed (length ts) st ≡ true → Arrived s (step_lines l k st) ts size (done ++ st ∷ []) (suc n)
    one_step s st l k n done at total b formed =
        let g = begins s l k n total b.stands at in
        let s' = g.from in let same = g.same in
        let tables : s'.tables ≡ ts = same.0 ∙ b.tables in
        let long : length s'.tables ≡ length ts = ap (λ (xs : List (List ℤ)). length xs) tables in
        let low = place_level w n l k m some at total in let small = place_worker w n l k some at in
        let u = record s' { phase = Between; steps = s'.steps ++ st ∷ []; vars = st.vars; frames = []; here = [] } in
        let kept = keeps (s'.worker + 1 == s'.workers) u in
        record {
          last = stepped s' st;
          goes = (opened s', next_in Between s (step_line l k) (opened s') b.phase g.goes, (omega (arith, low, levels), omega (arith, small, few)), body_goes s' st (omega (arith, long, many)) g.room (subst (λ x. step_formed x st ≡ true) (sym long) formed));
          between = record { phase = kept.0; tables = kept.1 ∙ tables; cells = kept.2 ∙ (same.1 ∙ b.cells); steps = kept.3 ∙ ap (λ xs. xs ++ st ∷ []) (same.2 ∙ b.steps); stands = g.after st };
        }

    steps_by : (d : Bool) (st : Step) (xs : List Step) (s : State) (l k n : ℕ) (done : List Step) → (k + 1 == w) ≡ d → place w 0 0 n ≡ two l k → Arrived s (step_lines l k st) ts size (done ++ st ∷ []) (suc n)
        → ((t : State) (l k : ℕ) → place w 0 0 (suc n) ≡ two l k → IsBetween t ts size (done ++ st ∷ []) w (suc n) → Arrived t (steps_lines w l k xs) ts size ((done ++ st ∷ []) ++ xs) (suc n + length xs))
        → Arrived s (step_lines l k st ++ (if d then steps_lines w (l + 1) 0 xs else steps_lines w l (k + 1) xs)) ts size ((done ++ st ∷ []) ++ xs) (suc n + length xs)
    steps_by true st xs s l k n done is at a again =
        let r = again a.last (l + 1) 0 (place_next w n l k at ∙ by_true (k + 1 == w) l k is) a.between in
        record { last = r.last; goes = goes_on (step_lines l k st) (steps_lines w (l + 1) 0 xs) s a.last r.last a.goes r.goes; between = r.between }
    steps_by false st xs s l k n done is at a again =
        let r = again a.last l (k + 1) (place_next w n l k at ∙ by_false (k + 1 == w) l k is) a.between in
        record { last = r.last; goes = goes_on (step_lines l k st) (steps_lines w l (k + 1) xs) s a.last r.last a.goes r.goes; between = r.between }

    steps_go : (xs : List Step) (s : State) (l k n : ℕ) (done : List Step) → place w 0 0 n ≡ two l k → n + length xs ≤ m * w → IsBetween s ts size done w n → list_all (step_formed (length ts)) xs ≡ true → Arrived s (steps_lines w l k xs) ts size (done ++ xs) (n + length xs)
    steps_go [] s l k n done at total b formed =
        record { last = s; goes = refl; between = record { phase = b.phase; tables = b.tables; cells = b.cells; steps = b.steps ∙ sym (append-nil done); stands = subst (λ x. Stands s w x) (none_more n) b.stands } }
    steps_go (st ∷ xs) s l k n done at total b formed =
        let p = step_formed (length ts) in
        let a = one_step s st l k n done at (omega (arith, total)) b (left_true (p st) (list_all p xs) formed) in
        let r = steps_by (k + 1 == w) st xs s l k n done refl at a (λ t l k there c. steps_go xs t l k (suc n) (done ++ st ∷ []) there (omega (arith, total)) c (right_true (p st) (list_all p xs) formed)) in
        let b' = r.between in
        record { last = r.last; goes = r.goes; between = record { phase = b'.phase; tables = b'.tables; cells = b'.cells; steps = b'.steps ∙ append_assoc done (st ∷ []) xs; stands = subst (λ x. Stands r.last w x) (later_suc n (length xs)) b'.stands } }

  -- ---- `run`

  record Runs (s : State) (l k n : ℕ) : Type 0 where
    phase : s.phase ≡ Running
    workers : s.workers ≡ w
    whole : s.levels ≡ m
    level : s.level ≡ l
    worker : s.worker ≡ k
    at : place w 0 0 n ≡ two l k

  called : (d : Bool) (c : ℕ) (s : State) (l k n : ℕ) → (k + 1 == w) ≡ d → Runs s l k n → (l < 2 ^ 32) × (k < 2 ^ 32)
      → next s (call_line l k) ≡ Some (if d then record s { level = s.level + 1; worker = 0 } else record s { worker = s.worker + 1 })
      → ((t : State) (l k : ℕ) → Runs t l k (suc n) → Goes t (calls_lines w l k c) (record t { level = m; worker = 0 }))
      → Goes s (call_line l k ∷ (if d then calls_lines w (l + 1) 0 c else calls_lines w l (k + 1) c)) (record s { level = m; worker = 0 })
  called true c s l k n is r fit step again =
      let u = record s { level = s.level + 1; worker = 0 } in let lv = r.level in
      (u, step, fit, again u (l + 1) 0 (record { phase = r.phase; workers = r.workers; whole = r.whole; level = ap (λ x. x + 1) lv; worker = refl; at = place_next w n l k r.at ∙ by_true (k + 1 == w) l k is }))
  called false c s l k n is r fit step again =
      let u = record s { worker = s.worker + 1 } in let wk = r.worker in
      (u, step, fit, again u l (k + 1) (record { phase = r.phase; workers = r.workers; whole = r.whole; level = r.level; worker = ap (λ x. x + 1) wk; at = place_next w n l k r.at ∙ by_false (k + 1 == w) l k is }))

  call_by : (d : Bool) (c : ℕ) (s : State) (l k n : ℕ) → (k + 1 == w) ≡ d → Runs s l k n → n + suc c ≡ m * w
      → ((t : State) (l k : ℕ) → Runs t l k (suc n) → Goes t (calls_lines w l k c) (record t { level = m; worker = 0 }))
      → Goes s (call_line l k ∷ (if d then calls_lines w (l + 1) 0 c else calls_lines w l (k + 1) c)) (record s { level = m; worker = 0 })
  call_by d c s l k n is r total again =
      let below_end = place_level w n l k m some r.at (omega (arith, total)) in let small = place_worker w n l k some r.at in
      let lev = r.whole in let lv = r.level in let wk = r.worker in let ws = r.workers in
      let t = l == s.level && k == s.worker && nat_lt s.level s.levels && has_room s in
      let test : t ≡ true = both_true (l == s.level && k == s.worker && nat_lt s.level s.levels) (has_room s)
      (both_true (l == s.level && k == s.worker) (nat_lt s.level s.levels) (both_true (l == s.level) (k == s.worker) (test_same l s.level (sym lv)) (test_same k s.worker (sym wk))) (under s.level s.levels (omega (arith, lev, lv, below_end))))
      (room_is s (omega (arith, lv, below_end, levels)) (omega (arith, wk, small, few))) in
      let same : (s.worker + 1 == s.workers) ≡ d = ap (λ x. x + 1 == s.workers) wk ∙ (ap (λ x. k + 1 == x) ws ∙ is) in
      let step : next s (call_line l k) ≡ Some (if d then record s { level = s.level + 1; worker = 0 } else record s { worker = s.worker + 1 }) =
      next_in Running s (call_line l k) (advanced s) r.phase (where_holds t (advanced s) test) ∙ ap (λ (x : Bool). Some (if x then record s { level = s.level + 1; worker = 0 } else record s { worker = s.worker + 1 })) same in
      called d c s l k n is r (omega (arith, below_end, levels), omega (arith, small, few)) step again

  calls_go : (c : ℕ) (s : State) (l k n : ℕ) → Runs s l k n → n + c ≡ m * w → Goes s (calls_lines w l k c) (record s { level = m; worker = 0 })
  calls_go zero s l k n r total =
      let lv = r.level in let wk = r.worker in
      let here : two l k ≡ two m 0 = sym r.at ∙ (ap (place w 0 0) (none_more n ∙ total) ∙ place_end w m some) in
      ap (λ (p : ℕ × ℕ). record s { level = p.0; worker = p.1 }) (ap (λ x. two x s.worker) lv ∙ (ap (two l) wk ∙ here))
  calls_go (suc c) s l k n r total = call_by (k + 1 == w) c s l k n refl r total (λ t l k q. calls_go c t l k (suc n) q (omega (arith, total)))

-- ---- the whole program

long_one : (xs : List (List ℤ)) (x : List ℤ) → length (xs ++ x ∷ []) ≡ length xs + 1
long_one xs x = let long = length-append xs (x ∷ []) in omega (arith, long)

not_none : (a : ℕ) → not (a == 0) ≡ true → 0 < a
not_none a h = grind (arith, h)

tables_go : (ts : List (List ℤ)) (s : State) → s.phase ≡ Tables → list_all table_formed ts ≡ true → length s.tables + length ts < 2 ^ 32 → Goes s (tables_lines (length s.tables) ts) (record s { tables = s.tables ++ ts })
tables_go [] s ph formed few = ap (λ xs. record s { tables = xs }) (sym (append-nil s.tables))
tables_go (x ∷ ts) s ph formed few =
    let u = record s { tables = s.tables ++ x ∷ [] } in
    let t = length s.tables == length s.tables && nat_lt (length s.tables + 1) (2 ^ 32) in
    let test : t ≡ true = both_true (length s.tables == length s.tables) (nat_lt (length s.tables + 1) (2 ^ 32)) (self (length s.tables)) (under (length s.tables + 1) (2 ^ 32) (omega (arith, few))) in
    let long : length (s.tables ++ x ∷ []) ≡ length s.tables + 1 = long_one s.tables x in
    let f = left_true (table_formed x) (list_all table_formed ts) formed in
    let ab = left_true (not (length x == 0) && nat_lt (length x) (2 ^ 32)) (list_all fits_64 x) f in
    let short = below (length x) (2 ^ 32) (right_true (not (length x == 0)) (nat_lt (length x) (2 ^ 32)) ab) in (
      u,
      next_in Tables s (table_line (length s.tables) x) u ph (where_holds t u test),
      record { name = omega (arith, few); many = short; some = not_none (length x) (left_true (not (length x == 0)) (nat_lt (length x) (2 ^ 32)) ab); fit = right_true (not (length x == 0) && nat_lt (length x) (2 ^ 32)) (list_all fits_64 x) f },
      goes_to (tables_lines (length s.tables + 1) ts) u (record u { tables = (s.tables ++ x ∷ []) ++ ts }) (record s { tables = s.tables ++ (x ∷ ts) }) (ap (λ xs. record s { tables = xs }) (append_assoc s.tables (x ∷ []) ts))
          (subst (λ n. Goes u (tables_lines n ts) (record u { tables = (s.tables ++ x ∷ []) ++ ts })) long (tables_go ts u ph (right_true (table_formed x) (list_all table_formed ts) formed) (omega (arith, long, few)))),
    )

some_is : (n : ℕ) → 0 < n → not (n == 0) ≡ true
some_is n h = grind (arith, h)

some_not : (n : ℕ) → 0 < n → (n == 0) ≡ false
some_not n h = grind (arith, h)

zero_more : (n : ℕ) → 0 + n ≡ n
zero_more n = omega arith

one_product : (n : ℕ) → 1 * n ≡ n
one_product n = omega arith

one_level : (l w n : ℕ) → n ≡ l * w → n ≤ w → 0 < w → 0 < l → l ≡ 1
one_level zero w n h i some lev = absurd (omega (arith, lev))
one_level (suc zero) w n h i some lev = refl
one_level (suc (suc l)) w n h i some lev = let two_levels = products 2 (suc (suc l)) w (omega arith) in absurd (omega (arith, two_levels, h, i, some))

same_program : (p q : Program) → p.tables ≡ q.tables → p.cells ≡ q.cells → p.levels ≡ q.levels → p.workers ≡ q.workers → p.steps ≡ q.steps → p ≡ q
same_program p q a b c d e =
    ap (λ x. record p { tables = x }) a
    ∙ (ap (λ x. record p { tables = q.tables; cells = x }) b
    ∙ (ap (λ x. record p { tables = q.tables; cells = q.cells; levels = x }) c
    ∙ (ap (λ x. record p { tables = q.tables; cells = q.cells; levels = q.levels; workers = x }) d
    ∙ ap (λ x. record q { steps = x }) e)))

-- the lines of a program lead from nothing to its end
pub record Ends (p : Program) : Type 0 where
  pub last : State
  pub goes : Goes nothing_read (program_lines p) last
  pub phase : last.phase ≡ Ended
  pub program : program_in last ≡ p

module _ (p : Program) (wf : IsWellFormed p) where
  abbrev s1 : State
  s1 = record nothing_read { phase = Headed }

  abbrev s2 : State
  s2 = record nothing_read { phase = Tables }

  abbrev s3 : State
  s3 = record s2 { tables = [] ++ p.tables }

  abbrev s4 : State
  s4 = record s3 { phase = Celled; cells = p.cells }

  abbrev s5 : State
  s5 = record s4 { phase = Between }

  front_goes : Goes nothing_read (front_lines p.tables p.cells) s5
  front_goes =
      let few = wf.tables_fit in let some = wf.some_cell in let fit = wf.cells_fit in
      let a : Goes nothing_read (head_line ∷ type_line ∷ tables_lines 0 p.tables) s3 =
      (s1, next_in Start nothing_read head_line s1 refl refl, tt, (s2, next_in Headed s1 type_line s2 refl refl, tt, tables_go p.tables s2 refl wf.tables (omega (arith, few)))) in
      let b : Goes s3 (v_line p.cells ∷ f_line p.cells ∷ []) s5 = (
        s4,
        next_in Tables s3 (v_line p.cells) s4 refl (where_holds (not (p.cells == 0)) s4 (some_is p.cells some)),
        fit,
        (s5, next_in Celled s4 (f_line p.cells) s5 refl (where_holds (p.cells == p.cells) s5 (self p.cells)), fit, refl),
      ) in
      goes_on (head_line ∷ type_line ∷ tables_lines 0 p.tables) (v_line p.cells ∷ f_line p.cells ∷ []) nothing_read s3 s5 a b

  steps_arrive : Arrived p.workers p.levels wf.some_worker wf.workers_fit wf.levels_fit s5 (steps_lines p.workers 0 0 p.steps) p.tables p.cells p.steps (length p.steps)
  steps_arrive =
      let count = wf.count in
      let r = steps_go p.workers p.levels wf.some_worker wf.workers_fit wf.levels_fit p.tables p.cells wf.tables_fit p.steps s5 0 0 0 [] refl (omega (arith, count)) (record { phase = refl; tables = refl; cells = refl; steps = refl; stands = inl (omega arith, refl, refl, refl) }) wf.steps in
      let b = r.between in
      record { last = r.last; goes = r.goes; between = record { phase = b.phase; tables = b.tables; cells = b.cells; steps = b.steps; stands = subst (λ n. Stands r.last p.workers n) (zero_more (length p.steps)) b.stands } }

  -- `run` begins
  record Starts (s : State) : Type 0 where
    into : State
    goes : after_between s run_line ≡ Some into
    runs : (into.phase ≡ Running) × (into.workers ≡ p.workers) × (into.levels ≡ p.levels) × (into.level ≡ 0) × (into.worker ≡ 0)
    same : (into.tables ≡ s.tables) × (into.cells ≡ s.cells) × (into.steps ≡ s.steps)

  starts : (s : State) → Stands s p.workers (length p.steps) → Starts s
  starts s (inl c) =
      let count = wf.count in let some = wf.some_worker in let lev = wf.some_level in let within = c.0 in let none = c.1 in let is = c.3 in
      let one : p.levels ≡ 1 = one_level p.levels p.workers (length p.steps) count within some lev in
      let whole : s.worker ≡ p.workers = is ∙ (count ∙ (ap (λ n. n * p.workers) one ∙ one_product p.workers)) in
      let into = record s { phase = Running; workers = s.worker; levels = 1; level = 0; worker = 0 } in
      record {
        into = into;
        goes = by_first (s.workers == 0) (where_true (not (s.worker == 0)) into) (where_true (s.worker == 0) (record s { phase = Running; levels = s.level; level = 0; worker = 0 })) (test_same s.workers 0 none) ∙ where_holds (not (s.worker == 0)) into (some_is s.worker (omega (arith, whole, some)));
        runs = (refl, whole, sym one, refl, refl);
        same = (refl, refl, refl);
      }
  starts s (inr c) =
      let count = wf.count in let some = wf.some_worker in let is = c.1 in
      let here : two p.levels 0 ≡ two s.level s.worker = sym (place_end p.workers p.levels some) ∙ (ap (place p.workers 0 0) (sym count) ∙ c.2) in
      let none : 0 ≡ s.worker = ap (λ (q : ℕ × ℕ). q.1) here in let level : p.levels ≡ s.level = ap (λ (q : ℕ × ℕ). q.0) here in
      let into = record s { phase = Running; levels = s.level; level = 0; worker = 0 } in
      record {
        into = into;
        goes = by_second (s.workers == 0) (where_true (not (s.worker == 0)) (record s { phase = Running; workers = s.worker; levels = 1; level = 0; worker = 0 })) (where_true (s.worker == 0) into) (some_not s.workers (omega (arith, is, some))) ∙ where_holds (s.worker == 0) into (test_same s.worker 0 (sym none));
        runs = (refl, is, sym level, refl, refl);
        same = (refl, refl, refl);
      }

  pub program_ends : Ends p
  program_ends =
      let a = steps_arrive in let b = a.between in
      let r = starts a.last b.stands in
      let s6 = r.into in let s7 = record s6 { level = p.levels; worker = 0 } in let s8 = record s7 { phase = Ended } in
      let count = wf.count in
      let calls = calls_go p.workers p.levels wf.some_worker wf.workers_fit wf.levels_fit (length p.steps) s6 0 0 0 (record { phase = r.runs.0; workers = r.runs.1; whole = r.runs.2; level = r.runs.3; worker = r.runs.4; at = refl }) (omega (arith, count)) in
      let close : Goes s7 (close_line ∷ []) s8 = (s8, next_in Running s7 close_line s8 r.runs.0 (where_holds (p.levels == s6.levels) s8 (test_same p.levels s6.levels (sym r.runs.2))), tt, refl) in
      let rest : Goes a.last (run_line ∷ (calls_lines p.workers 0 0 (length p.steps) ++ close_line ∷ [])) s8 =
      (s6, next_in Between a.last run_line s6 b.phase r.goes, tt, goes_on (calls_lines p.workers 0 0 (length p.steps)) (close_line ∷ []) s6 s7 s8 calls close) in
      record {
        last = s8;
        goes = goes_on (front_lines p.tables p.cells ++ steps_lines p.workers 0 0 p.steps) (run_line ∷ (calls_lines p.workers 0 0 (length p.steps) ++ close_line ∷ [])) nothing_read a.last s8
            (goes_on (front_lines p.tables p.cells) (steps_lines p.workers 0 0 p.steps) nothing_read s5 a.last front_goes a.goes) rest;
        phase = refl;
        program = same_program (program_in s8) p (r.same.0 ∙ b.tables) (r.same.1 ∙ b.cells) r.runs.2 r.runs.1 (r.same.2 ∙ b.steps);
      }
