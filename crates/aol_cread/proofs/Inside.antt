-- That the next line of a step, between steps or of `run` leads on.
use Rattle.std.specs.Prelude.{◌≡◌, ℕ, suc, ◌+◌, ◌*◌, ◌^◌, ◌<◌, ◌≤◌, max, nat_lt, nat_le, ◌==◌, int_le, Bool, true, false, ◌&&◌, ◌||◌, not, ℤ, List, [], ◌∷◌, ◌++◌, length, if◌then◌else◌, Some}
use Rattle.std.proofs.Common.{subst, sym, refl, ap, arith, ◌∙◌, append_assoc, inl, inr, ◌⊎◌}
use Rattle.std.proofs.lemmas.List.{append-nil}
use Rattle.aol_shape.specs.Numbers.{fits_64}
use Rattle.aol_csyn.specs.Tree.{Expr, num, var, tab, cell_v, cell_f, bin, Stmt, set_var, put_v, put_f, if_else, for_each, stmts, Step}
use Rattle.aol_csyn.specs.Form.{expr_depth, expr_formed, stmt_depth, stmts_depth, sets, any_sets, stmt_formed, stmts_formed, step_formed, IsWellFormed}
use Rattle.aol_cread.specs.Lines.{Line, step_line, var_line, set_line, put_v_line, put_f_line, if_line, else_line, for_line, close_line, run_line, call_line}
use Rattle.aol_cread.specs.States.{Frame, in_for, in_first, in_second, State, is_held, room_in, program_in}
use Rattle.aol_cread.specs.Next.{where_true, with_stmt, with_frame, fits_here, advanced, opened, has_room, second_level, after_between, closed, turned, is_empty, after_inside, after_running, after_phase, next, nothing_read}
use Rattle.aol_cread.specs.declared.building.Phase.{Phase}
use Rattle.aol_cread.specs.declared.building.Phase.TheVariants.{Start, Headed, Tables, Celled, Between, Inside, Running, Ended}
use Rattle.aol_cread.proofs.Exprs.{both_true, left_true, right_true, Sized}
use Rattle.aol_cread.proofs.OneLine.{FitsLine}
use Rattle.aol_cread.proofs.Shown.{stmt_lines, stmts_lines, vars_lines, step_lines, steps_lines, calls_lines, front_lines, program_lines, place, nested_lines, Inner, StmtFits, Nested, nested_more, nested_inner, nested_add, inner_none}
use Rattle.aol_cread.proofs.Places.{vars_more, two, next_place, place_more, steps_more, calls_more, before_place, place_zero, first_level, level_ends}
use Rattle.aol_cread.proofs.Sound.{Made, Known, First, Placed, base, InBetween, InStep, InRun, AtEnd, ReachedAt, Reached, held, same_numbers, below, not_zero, is_not, all_more, long_more, nothing_there, in_tables, in_cells, at_start, at_second}

-- ---- between steps

room_level : (s : State) → has_room s ≡ true → s.level + 1 < 2 ^ 32
room_level s h = below (s.level + 1) (2 ^ 32) (left_true (nat_lt (s.level + 1) (2 ^ 32)) (nat_lt (s.worker + 1) (2 ^ 32)) h)

room_worker : (s : State) → has_room s ≡ true → s.worker + 1 < 2 ^ 32
room_worker s h = below (s.worker + 1) (2 ^ 32) (right_true (nat_lt (s.level + 1) (2 ^ 32)) (nat_lt (s.worker + 1) (2 ^ 32)) h)

pub moved : (s u : State) → s.level ≡ u.level → s.worker ≡ u.worker → s.workers ≡ u.workers → First s ⊎ Known s → First u ⊎ Known u
moved s u h i j (inl f) = let none = f.workers in let low = f.level in inl (record { workers = sym j ∙ none; level = sym h ∙ low })
moved s u h i j (inr k) = let few = k.few in let within = k.within in let low = k.level in inr (record { few = omega (arith, few, j); within = omega (arith, within, i, j); level = omega (arith, low, h) })

begun : (s : State) (ls : List Line) (l w : ℕ) → l ≡ s.level → w ≡ s.worker → Made s → Placed s → has_room s ≡ true → ls ≡ base s → Reached (opened s) (ls ++ step_line l w ∷ [])
begun s ls l w is_l is_w made placed room lines =
    let tabled = made.tabled in let cells = made.cells in
    record {
      made = record { tabled = record { formed = tabled.formed; many = tabled.many }; cells = record { some = cells.some; few = cells.few }; steps = made.steps };
      placed = record { at = placed.at; known = moved s _ refl refl refl placed.known; level = placed.level; worker = placed.worker; higher = placed.higher };
      room = room;
      vars = omega arith;
      nested = (inner_none 0 (length s.tables) [] (omega arith), tt);
      lines = ap (λ z. z ++ step_line l w ∷ []) lines ∙ (ap (λ k. base s ++ step_line k w ∷ []) is_l ∙ ap (λ k. base s ++ step_line s.level k ∷ []) is_w);
    }

-- the first level is whole where the second begins
pub level_closed : (s : State) → Placed s → s.workers ≡ 0 → 0 < s.worker → (length s.steps ≡ s.worker) × (steps_lines s.workers 0 0 s.steps ≡ steps_lines s.worker 0 0 s.steps) × (place s.worker 0 0 (length s.steps) ≡ two 1 0)
level_closed s placed none some =
    let at : two 0 (0 + length s.steps) ≡ two s.level s.worker = sym (place_zero (length s.steps) 0 0) ∙ (ap (λ w. place w 0 0 (length s.steps)) (sym none) ∙ placed.at) in
    let long : 0 + length s.steps ≡ s.worker = ap (λ (p : ℕ × ℕ). p.1) at in
    (omega (arith, long), ap (λ w. steps_lines w 0 0 s.steps) none ∙ first_level s.worker s.steps 0 0 (omega (arith, long)), level_ends s.worker (length s.steps) 0 0 (omega (arith, long, some)) long)

second_begun : (s : State) (ls : List Line) (l w : ℕ) → (l == 1 && w == 0 && s.workers == 0 && not (s.worker == 0)) ≡ true → InBetween s ls → Reached (opened (second_level s)) (ls ++ step_line l w ∷ [])
second_begun s ls l w test r =
    let a = l == 1 in let b = w == 0 in let c = s.workers == 0 in let d = not (s.worker == 0) in
    let abc = left_true (a && b && c) d test in let ab = left_true (a && b) c abc in
    let none = same_numbers s.workers 0 (right_true (a && b) c abc) in
    let some = not_zero s.worker (right_true (a && b && c) d test) in
    let placed = r.placed in let made = r.made in let tabled = made.tabled in let cells = made.cells in
    let whole = level_closed s placed none some in
    let low = placed.worker in
    begun (second_level s) ls l w (same_numbers l 1 (left_true a b ab)) (same_numbers w 0 (right_true a b ab))
    (record { tabled = record { formed = tabled.formed; many = tabled.many }; cells = record { some = cells.some; few = cells.few }; steps = made.steps })
    (record { at = whole.2; known = inr (record { few = low; within = some; level = omega arith }); level = omega arith; worker = omega arith; higher = λ h. absurd (omega (arith, h)) })
    refl
    (r.lines ∙ ap (λ z. front_lines s.tables s.cells ++ z) whole.1)

step_by : (d : Bool) (s t : State) (l w : ℕ) (ls : List Line) → (l == s.level && w == s.worker) ≡ d
    → (if d then where_true (has_room s) (opened s) else where_true (l == 1 && w == 0 && s.workers == 0 && not (s.worker == 0)) (opened (second_level s))) ≡ Some t → InBetween s ls → Reached t (ls ++ step_line l w ∷ [])
step_by true s t l w ls is h r =
    let test = held (has_room s) (opened s) t h in
    subst (λ x. Reached x (ls ++ step_line l w ∷ [])) test.1
    (begun s ls l w (same_numbers l s.level (left_true (l == s.level) (w == s.worker) is)) (same_numbers w s.worker (right_true (l == s.level) (w == s.worker) is)) r.made r.placed test.0 r.lines)
step_by false s t l w ls is h r =
    let test = held (l == 1 && w == 0 && s.workers == 0 && not (s.worker == 0)) (opened (second_level s)) t h in
    subst (λ x. Reached x (ls ++ step_line l w ∷ [])) test.1 (second_begun s ls l w test.0 r)

-- `run` begins
known_of : (s : State) → First s ⊎ Known s → (s.workers == 0) ≡ false → Known s
known_of s (inl f) h = let none = f.workers in absurd (grind (arith, none, h))
known_of s (inr k) h = k

run_by : (d : Bool) (s t : State) (ls : List Line) → (s.workers == 0) ≡ d
    → (if d then where_true (not (s.worker == 0)) (record s { phase = Running; workers = s.worker; levels = 1; level = 0; worker = 0 }) else where_true (s.worker == 0) (record s { phase = Running; levels = s.level; level = 0; worker = 0 })) ≡ Some t
    → InBetween s ls → Reached t (ls ++ run_line ∷ [])
run_by true s t ls is h r =
    let u = record s { phase = Running; workers = s.worker; levels = 1; level = 0; worker = 0 } in
    let test = held (not (s.worker == 0)) u t h in
    let placed = r.placed in let made = r.made in let tabled = made.tabled in let cells = made.cells in
    let some = not_zero s.worker test.0 in
    let whole = level_closed s placed (same_numbers s.workers 0 is) some in let long = whole.0 in let low = placed.worker in
    let here : InRun u (ls ++ run_line ∷ []) = record {
      made = record { tabled = record { formed = tabled.formed; many = tabled.many }; cells = record { some = cells.some; few = cells.few }; steps = made.steps };
      whole = record { count = omega (arith, long); some_level = omega arith; few_levels = omega arith; some_worker = some; few_workers = low };
      calls = 0;
      at = refl;
      within = inl (omega arith);
      lines = ap (λ z. z ++ run_line ∷ []) (r.lines ∙ ap (λ z. front_lines s.tables s.cells ++ z) whole.1);
    } in
    subst (λ x. Reached x (ls ++ run_line ∷ [])) test.1 here
run_by false s t ls is h r =
    let u = record s { phase = Running; levels = s.level; level = 0; worker = 0 } in
    let test = held (s.worker == 0) u t h in
    let placed = r.placed in let made = r.made in let tabled = made.tabled in let cells = made.cells in
    let known = known_of s placed.known is in let within = known.within in let positive = known.level in let low = placed.level in
    let none = same_numbers s.worker 0 test.0 in
    let b = before_place s.workers (length s.steps) 0 0 (omega (arith, within)) in
    let many = b.many in
    let count : s.level * s.workers + s.worker ≡ 0 * s.workers + 0 + length s.steps = ap (λ (p : ℕ × ℕ). p.0 * s.workers + p.1) (sym placed.at) ∙ many in
    let here : InRun u (ls ++ run_line ∷ []) = record {
      made = record { tabled = record { formed = tabled.formed; many = tabled.many }; cells = record { some = cells.some; few = cells.few }; steps = made.steps };
      whole = record { count = omega (arith, count, none); some_level = positive; few_levels = low; some_worker = omega (arith, within); few_workers = known.few };
      calls = 0;
      at = refl;
      within = inl positive;
      lines = ap (λ z. z ++ run_line ∷ []) r.lines;
    } in
    subst (λ x. Reached x (ls ++ run_line ∷ [])) test.1 here

pub in_between : (s t : State) (l : Line) (ls : List Line) → after_between s l ≡ Some t → InBetween s ls → Reached t (ls ++ l ∷ [])
in_between s t (step_line l w) ls h r = step_by (l == s.level && w == s.worker) s t l w ls refl h r
in_between s t run_line ls h r = run_by (s.workers == 0) s t ls refl h r
in_between s t l ls h r = absurd (cc)

-- ---- inside a step

pub inside_lines : (p vs ns m : List Line) (st : Line) → (p ++ (st ∷ (vs ++ ns))) ++ m ≡ p ++ (st ∷ (vs ++ (ns ++ m)))
inside_lines p vs ns m st = append_assoc p (st ∷ (vs ++ ns)) m ∙ ap (λ z. p ++ (st ∷ z)) (append_assoc vs ns m)

-- other blocks and statements
changed : (s : State) (ls : List Line) (l : Line) (fs : List Frame) (here : List Stmt) → s.phase ≡ Inside → InStep s ls → Nested s.vars (length s.tables) fs here → nested_lines s.frames s.here ++ l ∷ [] ≡ nested_lines fs here
    → Reached (record s { frames = fs; here = here }) (ls ++ l ∷ [])
changed s ls l fs here is r n text =
    let u = record s { frames = fs; here = here } in
    let made = r.made in let placed = r.placed in let tabled = made.tabled in let cells = made.cells in
    let now : InStep u (ls ++ l ∷ []) = record {
      made = record { tabled = record { formed = tabled.formed; many = tabled.many }; cells = record { some = cells.some; few = cells.few }; steps = made.steps };
      placed = record { at = placed.at; known = moved s _ refl refl refl placed.known; level = placed.level; worker = placed.worker; higher = placed.higher };
      room = r.room;
      vars = r.vars;
      nested = n;
      lines = ap (λ z. z ++ l ∷ []) r.lines ∙ (inside_lines (base s) (vars_lines 0 s.vars) (nested_lines s.frames s.here) (l ∷ []) (step_line s.level s.worker)
          ∙ ap (λ z. base s ++ (step_line s.level s.worker ∷ (vars_lines 0 s.vars ++ z))) text);
    } in
    subst (λ ph. ReachedAt ph u (ls ++ l ∷ [])) (sym is) now

-- one more statement
added : (s : State) (ls : List Line) (l : Line) (st : Stmt) → s.phase ≡ Inside → InStep s ls → stmt_lines st ≡ l ∷ [] → StmtFits s.vars (length s.tables) s.frames st → Reached (with_stmt s st) (ls ++ l ∷ [])
added s ls l st is r one fits =
    changed s ls l s.frames (s.here ++ st ∷ []) is r (nested_add s.vars (length s.tables) s.frames s.here st r.nested fits)
    (ap (λ z. nested_lines s.frames s.here ++ z) (sym one) ∙ sym (nested_more s.frames s.here st))

some_depth : (e : Expr) → 0 < expr_depth e
some_depth (num z) = omega arith
some_depth (var k) = omega arith
some_depth (tab t i) = omega arith
some_depth (cell_v i) = omega arith
some_depth (cell_f i) = omega arith
some_depth (bin op a b) = omega arith

-- depth
deep : (s : State) (e : Expr) → Sized (room_in s) e → expr_depth e + 1 + length s.frames ≤ 1024
deep s e sized = let low = sized.depth in let some = some_depth e in omega (arith, low, some)

byte_self : (b : ℕ) → (b == b) ≡ true
byte_self b = grind arith

or_left : (a b : Bool) → a ≡ true → (a || b) ≡ true
or_left true b h = refl
or_left false b h = absurd (cc)

or_right : (a b : Bool) → b ≡ true → (a || b) ≡ true
or_right true b h = refl
or_right false b h = h

neither : (a b : Bool) → a ≡ false → b ≡ false → (a || b) ≡ false
neither true b h k = absurd (cc)
neither false b h k = k

apart_by : (d : Bool) (j k : ℕ) (fs : List Frame) → (k == j) ≡ d → is_held j fs ≡ true → is_held k fs ≡ false → d ≡ false
apart_by false j k fs is h f = refl
apart_by true j k fs is h f = let same = same_numbers k j is in let both = ap (λ n. is_held n fs) same in absurd (cc)

apart : (j k : ℕ) (fs : List Frame) → is_held j fs ≡ true → is_held k fs ≡ false → (k == j) ≡ false
apart j k fs h f = apart_by (k == j) j k fs refl h f

-- a block ends
pub for_fits : (vars tables : ℕ) (fs : List Frame) (k : ℕ) (a b : ℤ) (before here : List Stmt) → Nested vars tables (in_for k a b before ∷ fs) here → StmtFits vars tables fs (for_each k a b (stmts here))
for_fits vars tables fs k a b before here n =
    let i = n.0 in let f = n.1.0 in let low = i.depth in
    let self : is_held k (in_for k a b before ∷ fs) ≡ true = or_left (k == k) (is_held k fs) (byte_self k) in
    record {
      formed = both_true (nat_lt k vars && fits_64 a && fits_64 b && int_le a b && not (any_sets k (stmts here))) (stmts_formed vars tables (stmts here))
          (both_true (nat_lt k vars && fits_64 a && fits_64 b && int_le a b) (not (any_sets k (stmts here)))
          (both_true (nat_lt k vars && fits_64 a && fits_64 b) (int_le a b) (both_true (nat_lt k vars && fits_64 a) (fits_64 b) (both_true (nat_lt k vars) (fits_64 a) f.name f.first) f.second) f.ordered)
          (ap not (i.free k self))) i.formed;
      depth = omega (arith, low);
      free = λ j h. neither (k == j) (any_sets j (stmts here)) (apart j k fs h f.free) (i.free j (or_right (k == j) (is_held j fs) h));
    }

pub if_fits : (vars tables : ℕ) (fs : List Frame) (e : Expr) (first before here : List Stmt) → Nested vars tables (in_second e first before ∷ fs) here → StmtFits vars tables fs (if_else e (stmts first) (stmts here))
if_fits vars tables fs e first before here n =
    let i = n.0 in let f = n.1.0.0 in let j = n.1.0.1 in
    let low = i.depth in let near = j.depth in let small = f.depth in
    record {
      formed = both_true (expr_formed vars tables e && stmts_formed vars tables (stmts first)) (stmts_formed vars tables (stmts here)) (both_true (expr_formed vars tables e) (stmts_formed vars tables (stmts first)) f.formed j.formed) i.formed;
      depth = omega (arith, low, near, small);
      free = λ k h. neither (any_sets k (stmts first)) (any_sets k (stmts here)) (j.free k h) (i.free k h);
    }

pub closed_lines : (p m : List Line) (l : Line) (body : List Line) → (p ++ (l ∷ body)) ++ m ≡ p ++ (l ∷ (body ++ m))
closed_lines p m l body = append_assoc p (l ∷ body) m

at_most : (a b : ℕ) → a ≤ b → nat_le a b ≡ true
at_most a b h = grind (arith, h)

under : (a b : ℕ) → a < b → nat_lt a b ≡ true
under a b h = grind (arith, h)

step_ok : (s : State) → s.vars < 2 ^ 32 → Inner s.vars (length s.tables) [] s.here → step_formed (length s.tables) (record { vars = s.vars; body = stmts s.here }) ≡ true
step_ok s few i =
    let low = i.depth in
    let short : nat_le (stmts_depth (stmts s.here)) 1024 ≡ true = at_most (stmts_depth (stmts s.here)) 1024 (omega (arith, low)) in
    let small : nat_lt s.vars (2 ^ 32) ≡ true = under s.vars (2 ^ 32) few in
    both_true (nat_lt s.vars (2 ^ 32) && stmts_formed s.vars (length s.tables) (stmts s.here)) (nat_le (stmts_depth (stmts s.here)) 1024) (both_true (nat_lt s.vars (2 ^ 32)) (stmts_formed s.vars (length s.tables) (stmts s.here)) small i.formed) short

-- the place after one more
place_next : (w n l k : ℕ) → place w 0 0 n ≡ two l k → place w 0 0 (suc n) ≡ next_place w (two l k)
place_next w n l k at = place_more w n 0 0 ∙ ap (next_place w) at

wrapped : (d : Bool) (l k : ℕ) → d ≡ true → (if d then two (l + 1) 0 else two l (k + 1)) ≡ two (l + 1) 0
wrapped true l k h = refl
wrapped false l k h = absurd (cc)

further : (d : Bool) (l k : ℕ) → d ≡ false → (if d then two (l + 1) 0 else two l (k + 1)) ≡ two l (k + 1)
further true l k h = absurd (cc)
further false l k h = refl

known_last : (s : State) → First s ⊎ Known s → s.worker + 1 ≡ s.workers → Known s
known_last s (inl f) h = let none = f.workers in absurd (omega (arith, none, h))
known_last s (inr k) h = k

still : (s u : State) → u.level ≡ s.level → u.worker ≡ s.worker + 1 → u.workers ≡ s.workers → (s.worker + 1 ≡ s.workers → ⊥) → First s ⊎ Known s → First u ⊎ Known u
still s u h i j apart (inl f) = let none = f.workers in let low = f.level in inl (record { workers = j ∙ none; level = h ∙ low })
still s u h i j apart (inr k) =
    let few = k.few in let within = k.within in let low = k.level in
    inr (record { few = omega (arith, few, j); within = grind (arith, within, i, j, apart); level = omega (arith, low, h) })

base_more : (s : State) (st : Step) → Placed s → front_lines s.tables s.cells ++ steps_lines s.workers 0 0 (s.steps ++ st ∷ []) ≡ base s ++ step_lines s.level s.worker st
base_more s st placed =
    ap (λ z. front_lines s.tables s.cells ++ z) (steps_more s.workers s.steps 0 0 st ∙ ap (λ (p : ℕ × ℕ). steps_lines s.workers 0 0 s.steps ++ step_lines p.0 p.1 st) placed.at)
    ∙ sym (append_assoc (front_lines s.tables s.cells) (steps_lines s.workers 0 0 s.steps) (step_lines s.level s.worker st))

module _ (s : State) (ls : List Line) (r : InStep s ls) (bare : s.frames ≡ []) where
  abbrev last : Step
  last = record { vars = s.vars; body = stmts s.here }

  abbrev after : State
  after = record s { phase = Between; steps = s.steps ++ last ∷ []; here = [] }

  inner : Inner s.vars (length s.tables) [] s.here
  inner = subst (λ fs. Inner s.vars (length s.tables) fs s.here) bare (nested_inner s.vars (length s.tables) s.frames s.here r.nested)

  step_text : ls ++ close_line ∷ [] ≡ front_lines s.tables s.cells ++ steps_lines s.workers 0 0 (s.steps ++ last ∷ [])
  step_text =
      ap (λ z. z ++ close_line ∷ []) r.lines
      ∙ (inside_lines (base s) (vars_lines 0 s.vars) (nested_lines s.frames s.here) (close_line ∷ []) (step_line s.level s.worker)
      ∙ (ap (λ fs. base s ++ (step_line s.level s.worker ∷ (vars_lines 0 s.vars ++ (nested_lines fs s.here ++ close_line ∷ [])))) bare
      ∙ sym (base_more s last r.placed)))

  made_after : Made after
  made_after =
      let made = r.made in let tabled = made.tabled in let cells = made.cells in
      record { tabled = record { formed = tabled.formed; many = tabled.many }; cells = record { some = cells.some; few = cells.few }; steps = all_more (step_formed (length s.tables)) s.steps last made.steps (step_ok s r.vars inner) }

  place_after : place s.workers 0 0 (length (s.steps ++ last ∷ [])) ≡ next_place s.workers (two s.level s.worker)
  place_after = let placed = r.placed in ap (place s.workers 0 0) (long_more s.steps last) ∙ place_next s.workers (length s.steps) s.level s.worker placed.at

  pub ended_by : (d : Bool) → (s.worker + 1 == s.workers) ≡ d → Reached (if d then record after { level = s.level + 1; worker = 0 } else record after { worker = s.worker + 1 }) (ls ++ close_line ∷ [])
  ended_by true is =
      let placed = r.placed in let made = made_after in let tabled = made.tabled in let cells = made.cells in
      let same = same_numbers (s.worker + 1) s.workers is in
      let known = known_last s placed.known same in let few = known.few in let within = known.within in
      record {
        made = record { tabled = record { formed = tabled.formed; many = tabled.many }; cells = record { some = cells.some; few = cells.few }; steps = made.steps };
        placed = record {
          at = place_after ∙ wrapped (s.worker + 1 == s.workers) s.level s.worker is;
          known = inr (record { few = few; within = omega (arith, within); level = omega arith });
          level = room_level s r.room;
          worker = omega arith;
          higher = λ h. absurd (omega (arith, h));
        };
        lines = step_text;
      }
  ended_by false is =
      let placed = r.placed in let made = made_after in let tabled = made.tabled in let cells = made.cells in
      record {
        made = record { tabled = record { formed = tabled.formed; many = tabled.many }; cells = record { some = cells.some; few = cells.few }; steps = made.steps };
        placed = record {
          at = place_after ∙ further (s.worker + 1 == s.workers) s.level s.worker is;
          known = still s (record after { worker = s.worker + 1 }) refl refl refl (λ e. grind (arith, e, is)) placed.known;
          level = placed.level;
          worker = room_worker s r.room;
          higher = λ h. room_level s r.room;
        };
        lines = step_text;
      }

close_by : (fs : List Frame) (s t : State) (ls : List Line) → s.frames ≡ fs → s.phase ≡ Inside → closed s fs ≡ Some t → InStep s ls → Reached t (ls ++ close_line ∷ [])
close_by [] s t ls is ph h r =
    let test = held (has_room s) (advanced (record s { phase = Between; steps = s.steps ++ record { vars = s.vars; body = stmts s.here } ∷ []; here = [] })) t h in
    subst (λ x. Reached x (ls ++ close_line ∷ [])) test.1 (ended_by s ls r is (s.worker + 1 == s.workers) refl)
close_by (in_for k a b before ∷ fs) s t ls is ph h r =
    let st = for_each k a b (stmts s.here) in
    let same : record s { frames = fs; here = before ++ st ∷ [] } ≡ t = cc in
    let n = subst (λ gs. Nested s.vars (length s.tables) gs s.here) is r.nested in
    subst (λ x. Reached x (ls ++ close_line ∷ [])) same
    (changed s ls close_line fs (before ++ st ∷ []) ph r (nested_add s.vars (length s.tables) fs before st n.1.1 (for_fits s.vars (length s.tables) fs k a b before s.here n))
    (ap (λ gs. nested_lines gs s.here ++ close_line ∷ []) is ∙ (closed_lines (nested_lines fs before) (close_line ∷ []) (for_line k a b) (stmts_lines (stmts s.here)) ∙ sym (nested_more fs before st))))
close_by (in_first e before ∷ fs) s t ls is ph h r = absurd (cc)
close_by (in_second e first before ∷ fs) s t ls is ph h r =
    let st = if_else e (stmts first) (stmts s.here) in
    let same : record s { frames = fs; here = before ++ st ∷ [] } ≡ t = cc in
    let n = subst (λ gs. Nested s.vars (length s.tables) gs s.here) is r.nested in
    subst (λ x. Reached x (ls ++ close_line ∷ [])) same
    (changed s ls close_line fs (before ++ st ∷ []) ph r (nested_add s.vars (length s.tables) fs before st n.1.1 (if_fits s.vars (length s.tables) fs e first before s.here n))
    (ap (λ gs. nested_lines gs s.here ++ close_line ∷ []) is ∙ (closed_lines (nested_lines fs before) (close_line ∷ []) (if_line e) (stmts_lines (stmts first) ++ (else_line ∷ stmts_lines (stmts s.here)))
    ∙ (ap (λ z. nested_lines fs before ++ (if_line e ∷ z)) (append_assoc (stmts_lines (stmts first)) (else_line ∷ stmts_lines (stmts s.here)) (close_line ∷ [])) ∙ sym (nested_more fs before st)))))

turn_by : (fs : List Frame) (s t : State) (ls : List Line) → s.frames ≡ fs → s.phase ≡ Inside → turned s fs ≡ Some t → InStep s ls → Reached t (ls ++ else_line ∷ [])
turn_by [] s t ls is ph h r = absurd (cc)
turn_by (in_for k a b before ∷ fs) s t ls is ph h r = absurd (cc)
turn_by (in_second e first before ∷ fs) s t ls is ph h r = absurd (cc)
turn_by (in_first e before ∷ fs) s t ls is ph h r =
    let same : record s { frames = in_second e s.here before ∷ fs; here = [] } ≡ t = cc in
    let n = subst (λ gs. Nested s.vars (length s.tables) gs s.here) is r.nested in
    let i = n.0 in let low = i.depth in
    subst (λ x. Reached x (ls ++ else_line ∷ [])) same
    (changed s ls else_line (in_second e s.here before ∷ fs) [] ph r (inner_none s.vars (length s.tables) (in_second e s.here before ∷ fs) (omega (arith, low)), ((n.1.0, i), n.1.1))
    (ap (λ gs. nested_lines gs s.here ++ else_line ∷ []) is ∙ closed_lines (nested_lines fs before) (else_line ∷ []) (if_line e) (stmts_lines (stmts s.here))))

one_more : (n : ℕ) → suc n ≡ n + 1
one_more n = omega arith

none_more : (n : ℕ) → n ≡ 0 + n
none_more n = omega arith

-- a line of a variable
var_added : (s : State) (ls : List Line) (k : ℕ) → k ≡ s.vars → s.frames ≡ [] → s.here ≡ [] → s.vars + 1 < 2 ^ 32 → s.phase ≡ Inside → InStep s ls → Reached (record s { vars = s.vars + 1 }) (ls ++ var_line k ∷ [])
var_added s ls k is no_frame no_stmt few ph r =
    let u = record s { vars = s.vars + 1 } in
    let made = r.made in let placed = r.placed in let tabled = made.tabled in let cells = made.cells in
    let now : InStep u (ls ++ var_line k ∷ []) = record {
      made = record { tabled = record { formed = tabled.formed; many = tabled.many }; cells = record { some = cells.some; few = cells.few }; steps = made.steps };
      placed = record { at = placed.at; known = moved s u refl refl refl placed.known; level = placed.level; worker = placed.worker; higher = placed.higher };
      room = r.room;
      vars = few;
      nested = subst (λ fs. Nested (s.vars + 1) (length s.tables) fs s.here) (sym no_frame) (subst (λ here. Nested (s.vars + 1) (length s.tables) [] here) (sym no_stmt) (inner_none (s.vars + 1) (length s.tables) [] (omega arith), tt));
      lines = ap (λ z. z ++ var_line k ∷ []) r.lines
          ∙ (inside_lines (base s) (vars_lines 0 s.vars) (nested_lines s.frames s.here) (var_line k ∷ []) (step_line s.level s.worker)
          ∙ (ap (λ fs. base s ++ (step_line s.level s.worker ∷ (vars_lines 0 s.vars ++ (nested_lines fs s.here ++ var_line k ∷ [])))) no_frame
          ∙ (ap (λ here. base s ++ (step_line s.level s.worker ∷ (vars_lines 0 s.vars ++ (stmts_lines (stmts here) ++ var_line k ∷ [])))) no_stmt
          ∙ (ap (λ z. base s ++ (step_line s.level s.worker ∷ z)) (ap (λ n. vars_lines 0 s.vars ++ var_line n ∷ []) (is ∙ none_more s.vars) ∙ (sym (vars_more 0 s.vars) ∙ (ap (vars_lines 0) (one_more s.vars) ∙ sym (append-nil (vars_lines 0 (s.vars + 1))))))
          ∙ (ap (λ here. base s ++ (step_line s.level s.worker ∷ (vars_lines 0 (s.vars + 1) ++ stmts_lines (stmts here)))) (sym no_stmt)
          ∙ ap (λ fs. base s ++ (step_line s.level s.worker ∷ (vars_lines 0 (s.vars + 1) ++ nested_lines fs s.here))) (sym no_frame))))));
    } in
    subst (λ ph. ReachedAt ph u (ls ++ var_line k ∷ [])) (sym ph) now

set_fits : (s : State) (k : ℕ) (e : Expr) → nat_lt k s.vars ≡ true → fits_here s e ≡ true → is_held k s.frames ≡ false → Sized (room_in s) e → StmtFits s.vars (length s.tables) s.frames (set_var k e)
set_fits s k e name formed free sized =
    let low = deep s e sized in
    record { formed = both_true (nat_lt k s.vars) (fits_here s e) name formed; depth = low; free = λ j h. apart j k s.frames h free }

put_fits : (s : State) (at e : Expr) (st : Stmt) → stmt_formed s.vars (length s.tables) st ≡ (fits_here s at && fits_here s e) → stmt_depth st ≡ max (expr_depth at) (expr_depth e) + 1 → ((j : ℕ) → sets j st ≡ false) → (fits_here s at && fits_here s e) ≡ true
    → Sized (room_in s) at × Sized (room_in s) e → StmtFits s.vars (length s.tables) s.frames st
put_fits s at e st is deepest free formed sized =
    let first = deep s at sized.0 in let second = deep s e sized.1 in
    record { formed = is ∙ formed; depth = omega (arith, deepest, first, second); free = λ j h. free j }

pub in_step : (s t : State) (l : Line) (ls : List Line) → s.phase ≡ Inside → after_inside s l ≡ Some t → FitsLine (room_in s) l → InStep s ls → Reached t (ls ++ l ∷ [])
in_step s t (var_line k) ls ph h fit r =
    let a = k == s.vars in let b = is_empty s.frames in let c = is_empty s.here in let d = nat_lt (s.vars + 1) (2 ^ 32) in
    let test = held (a && b && c && d) (record s { vars = s.vars + 1 }) t h in
    let abc = left_true (a && b && c) d test.0 in let ab = left_true (a && b) c abc in
    subst (λ x. Reached x (ls ++ var_line k ∷ [])) test.1
    (var_added s ls k (same_numbers k s.vars (left_true a b ab)) (nothing_there s.frames (right_true a b ab)) (nothing_there s.here (right_true (a && b) c abc)) (below (s.vars + 1) (2 ^ 32) (right_true (a && b && c) d test.0)) ph r)
in_step s t (set_line k e) ls ph h fit r =
    let a = nat_lt k s.vars in let b = fits_here s e in let c = not (is_held k s.frames) in
    let test = held (a && b && c) (with_stmt s (set_var k e)) t h in
    let ab = left_true (a && b) c test.0 in
    subst (λ x. Reached x (ls ++ set_line k e ∷ [])) test.1
    (added s ls (set_line k e) (set_var k e) ph r refl (set_fits s k e (left_true a b ab) (right_true a b ab) (is_not (is_held k s.frames) (right_true (a && b) c test.0)) fit.1))
in_step s t (put_v_line at e) ls ph h fit r =
    let test = held (fits_here s at && fits_here s e) (with_stmt s (put_v at e)) t h in
    subst (λ x. Reached x (ls ++ put_v_line at e ∷ [])) test.1 (added s ls (put_v_line at e) (put_v at e) ph r refl (put_fits s at e (put_v at e) refl refl (λ j. refl) test.0 fit))
in_step s t (put_f_line at e) ls ph h fit r =
    let test = held (fits_here s at && fits_here s e) (with_stmt s (put_f at e)) t h in
    subst (λ x. Reached x (ls ++ put_f_line at e ∷ [])) test.1 (added s ls (put_f_line at e) (put_f at e) ph r refl (put_fits s at e (put_f at e) refl refl (λ j. refl) test.0 fit))
in_step s t (if_line e) ls ph h fit r =
    let test = held (fits_here s e) (with_frame s (in_first e s.here)) t h in
    let low = deep s e fit in let some = some_depth e in
    subst (λ x. Reached x (ls ++ if_line e ∷ [])) test.1
    (changed s ls (if_line e) (in_first e s.here ∷ s.frames) [] ph r (inner_none s.vars (length s.tables) (in_first e s.here ∷ s.frames) (omega (arith, low, some)), (record { formed = test.0; depth = low }, r.nested)) refl)
in_step s t (for_line k a b) ls ph h fit r =
    let p = nat_lt k s.vars in let q = int_le a b in let u = not (is_held k s.frames) in let v = nat_lt (length s.frames) 1024 in
    let test = held (p && q && u && v) (with_frame s (in_for k a b s.here)) t h in
    let pqu = left_true (p && q && u) v test.0 in let pq = left_true (p && q) u pqu in
    let low = below (length s.frames) 1024 (right_true (p && q && u) v test.0) in
    subst (λ x. Reached x (ls ++ for_line k a b ∷ [])) test.1
    (changed s ls (for_line k a b) (in_for k a b s.here ∷ s.frames) [] ph r
    (inner_none s.vars (length s.tables) (in_for k a b s.here ∷ s.frames) (omega (arith, low)), (record { name = left_true p q pq; first = fit.1; second = fit.2; ordered = right_true p q pq; free = is_not (is_held k s.frames) (right_true (p && q) u pqu) }, r.nested)) refl)
in_step s t else_line ls ph h fit r = turn_by s.frames s t ls refl ph h r
in_step s t close_line ls ph h fit r = close_by s.frames s t ls refl ph h r
in_step s t l ls ph h fit r = absurd (cc)

-- ---- inside `run`

at_end_by : (d : Bool) (l n : ℕ) → nat_lt l n ≡ d → l ≤ n → (l < n) ⊎ ((l ≡ n) × (◌≡◌ {A = ℕ} 0 0))
at_end_by true l n is h = inl (below l n is)
at_end_by false l n is h = inr (grind (arith, is, h), refl)

at_end : (l n : ℕ) → l ≤ n → (l < n) ⊎ ((l ≡ n) × (◌≡◌ {A = ℕ} 0 0))
at_end l n h = at_end_by (nat_lt l n) l n refl h

module _ (s : State) (ls : List Line) (r : InRun s ls) (below_end : s.level < s.levels) where
  call_text : (l w : ℕ) → l ≡ s.level → w ≡ s.worker → ls ++ call_line l w ∷ [] ≡ base s ++ (run_line ∷ calls_lines s.workers 0 0 (suc r.calls))
  call_text l w is_l is_w =
      ap (λ z. z ++ call_line l w ∷ []) r.lines
      ∙ (append_assoc (base s) (run_line ∷ calls_lines s.workers 0 0 r.calls) (call_line l w ∷ [])
      ∙ ap (λ z. base s ++ (run_line ∷ z)) (ap (λ n. calls_lines s.workers 0 0 r.calls ++ call_line n w ∷ []) is_l ∙ (ap (λ n. calls_lines s.workers 0 0 r.calls ++ call_line s.level n ∷ []) is_w
      ∙ (ap (λ (p : ℕ × ℕ). calls_lines s.workers 0 0 r.calls ++ call_line p.0 p.1 ∷ []) (sym r.at) ∙ sym (calls_more s.workers r.calls 0 0)))))

  called_by : (d : Bool) (l w : ℕ) → (s.worker + 1 == s.workers) ≡ d → l ≡ s.level → w ≡ s.worker → s.phase ≡ Running → Reached (if d then record s { level = s.level + 1; worker = 0 } else record s { worker = s.worker + 1 }) (ls ++ call_line l w ∷ [])
  called_by true l w is is_l is_w ph =
      let made = r.made in let tabled = made.tabled in let cells = made.cells in let whole = r.whole in
      let u = record s { level = s.level + 1; worker = 0 } in
      let now : InRun u (ls ++ call_line l w ∷ []) = record {
        made = record { tabled = record { formed = tabled.formed; many = tabled.many }; cells = record { some = cells.some; few = cells.few }; steps = made.steps };
        whole = record { count = whole.count; some_level = whole.some_level; few_levels = whole.few_levels; some_worker = whole.some_worker; few_workers = whole.few_workers };
        calls = suc r.calls;
        at = place_next s.workers r.calls s.level s.worker r.at ∙ wrapped (s.worker + 1 == s.workers) s.level s.worker is;
        within = at_end (s.level + 1) s.levels (omega (arith, below_end));
        lines = call_text l w is_l is_w;
      } in
      subst (λ ph. ReachedAt ph u (ls ++ call_line l w ∷ [])) (sym ph) now
  called_by false l w is is_l is_w ph =
      let made = r.made in let tabled = made.tabled in let cells = made.cells in let whole = r.whole in
      let u = record s { worker = s.worker + 1 } in
      let now : InRun u (ls ++ call_line l w ∷ []) = record {
        made = record { tabled = record { formed = tabled.formed; many = tabled.many }; cells = record { some = cells.some; few = cells.few }; steps = made.steps };
        whole = record { count = whole.count; some_level = whole.some_level; few_levels = whole.few_levels; some_worker = whole.some_worker; few_workers = whole.few_workers };
        calls = suc r.calls;
        at = place_next s.workers r.calls s.level s.worker r.at ∙ further (s.worker + 1 == s.workers) s.level s.worker is;
        within = inl below_end;
        lines = call_text l w is_l is_w;
      } in
      subst (λ ph. ReachedAt ph u (ls ++ call_line l w ∷ [])) (sym ph) now

at_last : (s : State) → s.level ≡ s.levels → (s.level < s.levels) ⊎ ((s.level ≡ s.levels) × (s.worker ≡ 0)) → s.worker ≡ 0
at_last s h (inl k) = absurd (omega (arith, h, k))
at_last s h (inr k) = k.1

pub in_run : (s t : State) (l : Line) (ls : List Line) → s.phase ≡ Running → after_running s l ≡ Some t → InRun s ls → Reached t (ls ++ l ∷ [])
in_run s t (call_line l w) ls ph h r =
    let a = l == s.level in let b = w == s.worker in let c = nat_lt s.level s.levels in
    let test = held (a && b && c && has_room s) (advanced s) t h in
    let abc = left_true (a && b && c) (has_room s) test.0 in let ab = left_true (a && b) c abc in
    subst (λ x. Reached x (ls ++ call_line l w ∷ [])) test.1
    (called_by s ls r (below s.level s.levels (right_true (a && b) c abc)) (s.worker + 1 == s.workers) l w refl (same_numbers l s.level (left_true a b ab)) (same_numbers w s.worker (right_true a b ab)) ph)
in_run s t close_line ls ph h r =
    let u = record s { phase = Ended } in
    let test = held (s.level == s.levels) u t h in
    let made = r.made in let tabled = made.tabled in let cells = made.cells in let whole = r.whole in
    let last = same_numbers s.level s.levels test.0 in let none = at_last s last r.within in
    let some = whole.some_worker in let count = whole.count in
    let b = before_place s.workers r.calls 0 0 some in let many = b.many in
    let there : s.level * s.workers + s.worker ≡ 0 * s.workers + 0 + r.calls = ap (λ (p : ℕ × ℕ). p.0 * s.workers + p.1) (sym r.at) ∙ many in
    let same : s.level * s.workers ≡ s.levels * s.workers = ap (λ n. n * s.workers) last in
    let all : r.calls ≡ length s.steps = omega (arith, there, none, count, same) in
    let now : AtEnd u (ls ++ close_line ∷ []) = record {
      made = record { tabled = record { formed = tabled.formed; many = tabled.many }; cells = record { some = cells.some; few = cells.few }; steps = made.steps };
      whole = record { count = whole.count; some_level = whole.some_level; few_levels = whole.few_levels; some_worker = whole.some_worker; few_workers = whole.few_workers };
      lines = ap (λ z. z ++ close_line ∷ []) r.lines ∙ (append_assoc (base s) (run_line ∷ calls_lines s.workers 0 0 r.calls) (close_line ∷ []) ∙ ap (λ n. base s ++ (run_line ∷ (calls_lines s.workers 0 0 n ++ close_line ∷ []))) all);
    } in
    subst (λ x. Reached x (ls ++ close_line ∷ [])) test.1 now
in_run s t l ls ph h r = absurd (cc)

-- ---- any line

by_phase : (ph : Phase) (s t : State) (l : Line) (ls : List Line) → s.phase ≡ ph → after_phase ph s l ≡ Some t → FitsLine (room_in s) l → ReachedAt ph s ls → Reached t (ls ++ l ∷ [])
by_phase Start s t l ls is h fit r = at_start s t l ls h r
by_phase Headed s t l ls is h fit r = at_second s t l ls h r
by_phase Tables s t l ls is h fit r = in_tables s t l ls is h fit r
by_phase Celled s t l ls is h fit r = in_cells s t l ls h r
by_phase Between s t l ls is h fit r = in_between s t l ls h r
by_phase Inside s t l ls is h fit r = in_step s t l ls is h fit r
by_phase Running s t l ls is h fit r = in_run s t l ls is h r
by_phase Ended s t l ls is h fit r = absurd (cc)

-- the next line leads on
pub reached_next : (s t : State) (l : Line) (ls : List Line) → next s l ≡ Some t → FitsLine (room_in s) l → Reached s ls → Reached t (ls ++ l ∷ [])
unfolding next
reached_next s t l ls h fit r = by_phase s.phase s t l ls refl h fit r

pub reached_none : Reached nothing_read []
reached_none = record { tables = refl; none = record { steps = refl; level = refl; worker = refl; workers = refl }; lines = refl }

-- at the end the program is well formed, and the lines are its own
pub ended : (s : State) (ls : List Line) → s.phase ≡ Ended → Reached s ls → IsWellFormed (program_in s) × (ls ≡ program_lines (program_in s))
ended s ls ph r =
    let e = subst (λ ph. ReachedAt ph s ls) ph r in
    let made = e.made in let tabled = made.tabled in let cells = made.cells in let whole = e.whole in (
      record {
        count = whole.count;
        some_cell = cells.some;
        cells_fit = cells.few;
        some_level = whole.some_level;
        levels_fit = whole.few_levels;
        some_worker = whole.some_worker;
        workers_fit = whole.few_workers;
        tables_fit = tabled.many;
        tables = tabled.formed;
        steps = made.steps;
      },
      e.lines,
    )
