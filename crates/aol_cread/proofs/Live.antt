-- Whatever lines lead to a state, some program's lines begin so.
use Rattle.std.specs.Prelude.{◌≡◌, ℕ, zero, suc, ◌+◌, ◌*◌, ◌-◌, ◌^◌, ◌<◌, ◌≤◌, ◌==◌, Bool, true, false, ℤ, List, [], ◌∷◌, ◌++◌, length, replicate}
use Rattle.std.specs.List.{list_all}
use Rattle.std.proofs.Common.{sym, refl, ap, arith, ◌∙◌, append_assoc, length-append, inl, inr, ◌⊎◌}
use Rattle.std.proofs.lemmas.List.{append-nil, length-replicate}
use Rattle.aol_csyn.specs.Tree.{Stmt, if_else, for_each, no_stmts, stmts, Step, Program}
use Rattle.aol_csyn.specs.Form.{step_formed, table_formed, IsWellFormed}
use Rattle.aol_cread.specs.Lines.{Line, head_line, type_line, v_line, f_line, step_line, if_line, else_line, for_line, close_line, run_line, call_line}
use Rattle.aol_cread.specs.States.{Frame, in_for, in_first, in_second, State, program_in}
use Rattle.aol_cread.specs.declared.building.Phase.{Phase}
use Rattle.aol_cread.specs.declared.building.Phase.TheVariants.{Start, Headed, Tables, Celled, Between, Inside, Running, Ended}
use Rattle.aol_cread.proofs.Exprs.{both_true, left_true, right_true}
use Rattle.aol_cread.proofs.Shown.{stmts_lines, tables_lines, vars_lines, step_lines, steps_lines, calls_lines, front_lines, program_lines, place, nested_lines, Nested, nested_more, nested_add, inner_none}
use Rattle.aol_cread.proofs.Places.{two, steps_more, calls_more, before_place, place_zero}
use Rattle.aol_cread.proofs.Sound.{Tabled, NoStep, Celled', Known, First, base, InBetween, InStep, InRun, ReachedAt, Reached, same_numbers}
use Rattle.aol_cread.proofs.Inside.{for_fits, if_fits, inside_lines, closed_lines, moved, level_closed, ended_by}

pub record Lives (ls : List Line) : Type 0 where
  pub program : Program
  pub formed : IsWellFormed program
  pub more : List Line
  pub lines : program_lines program ≡ ls ++ more

lives_front : (ls ms : List Line) → Lives (ls ++ ms) → Lives ls
lives_front ls ms v = record { program = v.program; formed = v.formed; more = ms ++ v.more; lines = v.lines ∙ append_assoc ls ms v.more }

-- ---- a step that does nothing

abbrev empty : Step
empty = record { vars = 0; body = no_stmts }

empties_formed : (tables m : ℕ) → list_all (step_formed tables) (replicate m empty) ≡ true
empties_formed tables zero = refl
empties_formed tables (suc m) = both_true (step_formed tables empty) (list_all (step_formed tables) (replicate m empty)) refl (empties_formed tables m)

all_both : {A : Type 0} (p : A → Bool) (xs ys : List A) → list_all p xs ≡ true → list_all p ys ≡ true → list_all p (xs ++ ys) ≡ true
all_both p [] ys h k = k
all_both p (x ∷ xs) ys h k = both_true (p x) (list_all p (xs ++ ys)) (left_true (p x) (list_all p xs) h) (all_both p xs ys (right_true (p x) (list_all p xs) h) k)

steps_front : (w m : ℕ) (xs : List Step) → (more : List Line) × (steps_lines w 0 0 (xs ++ replicate m empty) ≡ steps_lines w 0 0 xs ++ more)
steps_front w zero xs = ([], ap (steps_lines w 0 0) (append-nil xs) ∙ sym (append-nil (steps_lines w 0 0 xs)))
steps_front w (suc m) xs =
    let r = steps_front w m (xs ++ empty ∷ []) in
    let one = step_lines (place w 0 0 (length xs)).0 (place w 0 0 (length xs)).1 empty in
    (one ++ r.0, ap (steps_lines w 0 0) (sym (append_assoc xs (empty ∷ []) (replicate m empty))) ∙ (r.1 ∙ (ap (λ z. z ++ r.0) (steps_more w xs 0 0 empty) ∙ append_assoc (steps_lines w 0 0 xs) one r.0)))

one_later : (n c : ℕ) → n + suc c ≡ suc (n + c)
one_later n c = omega arith

calls_front : (w n c : ℕ) → (more : List Line) × (calls_lines w 0 0 (n + c) ≡ calls_lines w 0 0 n ++ more)
calls_front w n zero = ([], ap (calls_lines w 0 0) (omega arith) ∙ sym (append-nil (calls_lines w 0 0 n)))
calls_front w n (suc c) =
    let r = calls_front w n c in
    let one = call_line (place w 0 0 (n + c)).0 (place w 0 0 (n + c)).1 ∷ [] in
    (r.0 ++ one, ap (calls_lines w 0 0) (one_later n c) ∙ (calls_more w (n + c) 0 0 ∙ (ap (λ z. z ++ one) r.1 ∙ append_assoc (calls_lines w 0 0 n) r.0 one)))

long_both : (xs : List Step) (m : ℕ) → length (xs ++ replicate m empty) ≡ length xs + m
long_both xs m = let a = length-append xs (replicate m empty) in let b = length-replicate m empty in omega (arith, a, b)

no_steps : (xs : List Step) → length xs ≡ 0 → xs ≡ []
no_steps [] h = refl
no_steps (x ∷ xs) h = absurd (omega (arith, h))

-- the lines of a program from its steps on
with_steps : (s : State) (ls : List Line) (l w m : ℕ) → ls ≡ front_lines s.tables s.cells ++ steps_lines w 0 0 s.steps → Tabled s → Celled' s → list_all (step_formed (length s.tables)) s.steps ≡ true
    → length s.steps + m ≡ l * w → 0 < l → l < 2 ^ 32 → 0 < w → w < 2 ^ 32 → Lives ls
with_steps s ls l w m lines tabled cells formed count some few some_w few_w =
    let steps = s.steps ++ replicate m empty in
    let p : Program = record { tables = s.tables; cells = s.cells; levels = l; workers = w; steps = steps } in
    let f = steps_front w m s.steps in
    let rest = run_line ∷ (calls_lines w 0 0 (length steps) ++ close_line ∷ []) in
    record {
      program = p;
      formed = record {
        count = long_both s.steps m ∙ count;
        some_cell = cells.some;
        cells_fit = cells.few;
        some_level = some;
        levels_fit = few;
        some_worker = some_w;
        workers_fit = few_w;
        tables_fit = tabled.many;
        tables = tabled.formed;
        steps = all_both (step_formed (length s.tables)) s.steps (replicate m empty) formed (empties_formed (length s.tables) m);
      };
      more = f.0 ++ rest;
      lines = ap (λ z. (front_lines s.tables s.cells ++ z) ++ rest) f.1 ∙ (ap (λ z. z ++ rest) (sym (append_assoc (front_lines s.tables s.cells) (steps_lines w 0 0 s.steps) f.0)) ∙ (append_assoc (front_lines s.tables s.cells ++ steps_lines w 0 0 s.steps) f.0 rest ∙ ap (λ z. z ++ (f.0 ++ rest)) (sym lines)));
    }

-- before the first step
fresh : (s : State) (ls more : List Line) (cells : ℕ) → Tabled s → NoStep s → 0 < cells → cells < 2 ^ 32 → ls ++ more ≡ front_lines s.tables cells → Lives ls
fresh s ls more cells tabled none some few lines =
    let u = record s { cells = cells; steps = [] } in
    lives_front ls more (with_steps u (ls ++ more) 1 1 1 (lines ∙ sym (append-nil (front_lines s.tables cells))) (record { formed = tabled.formed; many = tabled.many }) (record { some = some; few = few }) refl (omega arith) (omega arith) (omega arith) (omega arith) (omega arith))

-- ---- between steps

first_lives : (s : State) (ls : List Line) → InBetween s ls → First s → (d : Bool) → (s.worker == 0) ≡ d → Lives ls
first_lives s ls r f true is =
    let made = r.made in let placed = r.placed in let none = f.workers in let low = f.level in
    let at : two 0 (0 + length s.steps) ≡ two s.level s.worker = sym (place_zero (length s.steps) 0 0) ∙ (ap (λ w. place w 0 0 (length s.steps)) (sym none) ∙ placed.at) in
    let long : 0 + length s.steps ≡ s.worker = ap (λ (p : ℕ × ℕ). p.1) at in
    let zero_worker = same_numbers s.worker 0 is in
    let no : s.steps ≡ [] = no_steps s.steps (omega (arith, long, zero_worker)) in
    with_steps s ls 1 1 1 (r.lines ∙ ap (λ z. front_lines s.tables s.cells ++ z) (ap (λ xs. steps_lines s.workers 0 0 xs) no ∙ ap (λ xs. steps_lines 1 0 0 xs) (sym no))) made.tabled made.cells made.steps (omega (arith, long, zero_worker)) (omega arith) (omega arith) (omega arith) (omega arith)
first_lives s ls r f false is =
    let made = r.made in let placed = r.placed in
    let some : 0 < s.worker = grind (arith, is) in let low = placed.worker in
    let whole = level_closed s placed f.workers some in let long = whole.0 in
    with_steps s ls 1 s.worker 0 (r.lines ∙ ap (λ z. front_lines s.tables s.cells ++ z) whole.1) made.tabled made.cells made.steps (omega (arith, long)) (omega arith) (omega arith) some low

more_product : (l w : ℕ) → (l + 1) * w ≡ l * w + w
more_product l w = grind arith

place_count : (s : State) {ls : List Line} → InBetween s ls → Known s → s.level * s.workers + s.worker ≡ length s.steps
place_count s r k =
    let placed = r.placed in let within = k.within in
    let b = before_place s.workers (length s.steps) 0 0 (omega (arith, within)) in let many = b.many in
    let there : s.level * s.workers + s.worker ≡ 0 * s.workers + 0 + length s.steps = ap (λ (p : ℕ × ℕ). p.0 * s.workers + p.1) (sym placed.at) ∙ many in
    omega (arith, there)

known_lives : (s : State) (ls : List Line) → InBetween s ls → Known s → (d : Bool) → (s.worker == 0) ≡ d → Lives ls
known_lives s ls r k true is =
    let made = r.made in let placed = r.placed in
    let few = k.few in let within = k.within in let low = placed.level in
    let none = same_numbers s.worker 0 is in let count = place_count s r k in
    with_steps s ls s.level s.workers 0 r.lines made.tabled made.cells made.steps (omega (arith, count, none)) k.level low (omega (arith, within)) few
known_lives s ls r k false is =
    let made = r.made in let placed = r.placed in
    let few = k.few in let within = k.within in let some : 0 < s.worker = grind (arith, is) in
    let count = place_count s r k in let product = more_product s.level s.workers in
    with_steps s ls (s.level + 1) s.workers (s.workers - s.worker) r.lines made.tabled made.cells made.steps (omega (arith, count, product, within)) (omega arith) (placed.higher some) (omega (arith, within)) few

by_known : (s : State) (ls : List Line) → InBetween s ls → First s ⊎ Known s → Lives ls
by_known s ls r (inl f) = first_lives s ls r f (s.worker == 0) refl
by_known s ls r (inr k) = known_lives s ls r k (s.worker == 0) refl

between_lives : (s : State) (ls : List Line) → InBetween s ls → Lives ls
between_lives s ls r = by_known s ls r r.placed.known

-- ---- inside a step

pub record Closes (vars tables : ℕ) (fs : List Frame) (here : List Stmt) : Type 0 where
  pub all : List Stmt
  pub more : List Line
  pub nested : Nested vars tables [] all
  pub lines : nested_lines [] all ≡ nested_lines fs here ++ more

-- one block is closed
once : (vars tables : ℕ) (fs gs : List Frame) (before here : List Stmt) (ms : List Line) → nested_lines gs before ≡ nested_lines fs here ++ ms → Closes vars tables gs before → Closes vars tables fs here
once vars tables fs gs before here ms same c =
    record { all = c.all; more = ms ++ c.more; nested = c.nested; lines = c.lines ∙ (ap (λ z. z ++ c.more) same ∙ append_assoc (nested_lines fs here) ms c.more) }

closes : (vars tables : ℕ) (fs : List Frame) (here : List Stmt) → Nested vars tables fs here → Closes vars tables fs here
closes vars tables [] here n = record { all = here; more = []; nested = n; lines = sym (append-nil (nested_lines [] here)) }
closes vars tables (in_for k a b before ∷ fs) here n =
    let st = for_each k a b (stmts here) in
    once vars tables (in_for k a b before ∷ fs) fs (before ++ st ∷ []) here (close_line ∷ [])
    (nested_more fs before st ∙ sym (closed_lines (nested_lines fs before) (close_line ∷ []) (for_line k a b) (stmts_lines (stmts here))))
    (closes vars tables fs (before ++ st ∷ []) (nested_add vars tables fs before st n.1.1 (for_fits vars tables fs k a b before here n)))
closes vars tables (in_first e before ∷ fs) here n =
    let st = if_else e (stmts here) (stmts []) in
    let i = n.0 in let low = i.depth in
    let second : Nested vars tables (in_second e here before ∷ fs) [] = (inner_none vars tables (in_second e here before ∷ fs) (omega (arith, low)), ((n.1.0, i), n.1.1)) in
    once vars tables (in_first e before ∷ fs) fs (before ++ st ∷ []) here (else_line ∷ close_line ∷ [])
    (nested_more fs before st ∙ sym (closed_lines (nested_lines fs before) (else_line ∷ close_line ∷ []) (if_line e) (stmts_lines (stmts here))))
    (closes vars tables fs (before ++ st ∷ []) (nested_add vars tables fs before st n.1.1 (if_fits vars tables fs e here before [] second)))
closes vars tables (in_second e first before ∷ fs) here n =
    let st = if_else e (stmts first) (stmts here) in
    once vars tables (in_second e first before ∷ fs) fs (before ++ st ∷ []) here (close_line ∷ [])
    (nested_more fs before st ∙ sym (closed_lines (nested_lines fs before) (close_line ∷ []) (if_line e) (stmts_lines (stmts first) ++ (else_line ∷ stmts_lines (stmts here)))
    ∙ ap (λ z. nested_lines fs before ++ (if_line e ∷ z)) (append_assoc (stmts_lines (stmts first)) (else_line ∷ stmts_lines (stmts here)) (close_line ∷ []))))
    (closes vars tables fs (before ++ st ∷ []) (nested_add vars tables fs before st n.1.1 (if_fits vars tables fs e first before here n)))

after_step : (s : State) (ls : List Line) → InStep s ls → (bare : s.frames ≡ []) → (d : Bool) → (s.worker + 1 == s.workers) ≡ d → Lives (ls ++ close_line ∷ [])
after_step s ls r bare true is = between_lives _ (ls ++ close_line ∷ []) (ended_by s ls r bare true is)
after_step s ls r bare false is = between_lives _ (ls ++ close_line ∷ []) (ended_by s ls r bare false is)

step_lives : (s : State) (ls : List Line) → InStep s ls → Lives ls
step_lives s ls r =
    let c = closes s.vars (length s.tables) s.frames s.here r.nested in
    let u = record s { frames = []; here = c.all } in
    let made = r.made in let placed = r.placed in let tabled = made.tabled in let cells = made.cells in
    let now : InStep u (ls ++ c.more) = record {
      made = record { tabled = record { formed = tabled.formed; many = tabled.many }; cells = record { some = cells.some; few = cells.few }; steps = made.steps };
      placed = record { at = placed.at; known = moved s u refl refl refl placed.known; level = placed.level; worker = placed.worker; higher = placed.higher };
      room = r.room;
      vars = r.vars;
      nested = c.nested;
      lines = ap (λ z. z ++ c.more) r.lines ∙ (inside_lines (base s) (vars_lines 0 s.vars) (nested_lines s.frames s.here) c.more (step_line s.level s.worker)
          ∙ ap (λ z. base s ++ (step_line s.level s.worker ∷ (vars_lines 0 s.vars ++ z))) (sym c.lines));
    } in
    lives_front ls c.more (lives_front (ls ++ c.more) (close_line ∷ []) (after_step u (ls ++ c.more) now refl (s.worker + 1 == s.workers) refl))

products : (a b w : ℕ) → a ≤ b → a * w ≤ b * w
products a b w h = grind (arith, h)

-- ---- inside `run`

fewer_by : (l m w k : ℕ) → (l < m) ⊎ ((l ≡ m) × (k ≡ 0)) → k < w → l * w + k ≤ m * w
fewer_by l m w k (inl h) low = let more = products (l + 1) m w (omega (arith, h)) in let one = more_product l w in omega (arith, more, one, low)
fewer_by l m w k (inr h) low = let same = ap (λ x. x * w) h.0 in let none = h.1 in omega (arith, same, none)

run_lives : (s : State) (ls : List Line) → InRun s ls → Lives ls
run_lives s ls r =
    let made = r.made in let tabled = made.tabled in let cells = made.cells in let whole = r.whole in
    let some = whole.some_worker in let count = whole.count in
    let b = before_place s.workers r.calls 0 0 some in let many = b.many in let small = b.within in
    let worker : (place s.workers 0 0 r.calls).1 ≡ s.worker = ap (λ (p : ℕ × ℕ). p.1) r.at in
    let there : s.level * s.workers + s.worker ≡ 0 * s.workers + 0 + r.calls = ap (λ (p : ℕ × ℕ). p.0 * s.workers + p.1) (sym r.at) ∙ many in
    let fewer = fewer_by s.level s.levels s.workers s.worker r.within (omega (arith, small, worker)) in
    let left : r.calls + (length s.steps - r.calls) ≡ length s.steps = omega (arith, there, fewer, count) in
    let f = calls_front s.workers r.calls (length s.steps - r.calls) in
    record {
      program = program_in s;
      formed = record {
        count = whole.count;
        some_cell = cells.some;
        cells_fit = cells.few;
        some_level = whole.some_level;
        levels_fit = whole.few_levels;
        some_worker = whole.some_worker;
        workers_fit = whole.few_workers;
        tables_fit = tabled.many;
        tables = tabled.formed;
        steps = made.steps;
      };
      more = f.0 ++ close_line ∷ [];
      lines = ap (λ n. base s ++ (run_line ∷ (calls_lines s.workers 0 0 n ++ close_line ∷ []))) (sym left)
          ∙ (ap (λ z. base s ++ (run_line ∷ (z ++ close_line ∷ []))) f.1 ∙ (ap (λ z. base s ++ (run_line ∷ z)) (append_assoc (calls_lines s.workers 0 0 r.calls) f.0 (close_line ∷ []))
          ∙ (sym (append_assoc (base s) (run_line ∷ calls_lines s.workers 0 0 r.calls) (f.0 ++ close_line ∷ [])) ∙ ap (λ z. z ++ (f.0 ++ close_line ∷ [])) (sym r.lines))));
    }

start_tabled : (s : State) → s.tables ≡ [] → Tabled s
start_tabled s h = let n = ap (λ (xs : List (List ℤ)). length xs) h in record { formed = ap (list_all table_formed) h; many = omega (arith, n) }

lives_by : (ph : Phase) (s : State) (ls : List Line) → ReachedAt ph s ls → Lives ls
lives_by Start s ls r =
    fresh s ls (head_line ∷ type_line ∷ v_line 1 ∷ f_line 1 ∷ []) 1 (start_tabled s r.tables) r.none (omega arith) (omega arith) (ap (λ z. z ++ head_line ∷ type_line ∷ v_line 1 ∷ f_line 1 ∷ []) r.lines ∙ ap (λ ts. front_lines ts 1) (sym r.tables))
lives_by Headed s ls r =
    fresh s ls (type_line ∷ v_line 1 ∷ f_line 1 ∷ []) 1 (start_tabled s r.tables) r.none (omega arith) (omega arith) (ap (λ z. z ++ type_line ∷ v_line 1 ∷ f_line 1 ∷ []) r.lines ∙ ap (λ ts. front_lines ts 1) (sym r.tables))
lives_by Tables s ls r = fresh s ls (v_line 1 ∷ f_line 1 ∷ []) 1 r.tabled r.none (omega arith) (omega arith) (ap (λ z. z ++ v_line 1 ∷ f_line 1 ∷ []) r.lines)
lives_by Celled s ls r =
    let cells = r.cells in
    fresh s ls (f_line s.cells ∷ []) s.cells r.tabled r.none cells.some cells.few (ap (λ z. z ++ f_line s.cells ∷ []) r.lines ∙ append_assoc (head_line ∷ type_line ∷ tables_lines 0 s.tables) (v_line s.cells ∷ []) (f_line s.cells ∷ []))
lives_by Between s ls r = between_lives s ls r
lives_by Inside s ls r = step_lives s ls r
lives_by Running s ls r = run_lives s ls r
lives_by Ended s ls r =
    let made = r.made in let tabled = made.tabled in let cells = made.cells in let whole = r.whole in
    record {
      program = program_in s;
      formed = record {
        count = whole.count;
        some_cell = cells.some;
        cells_fit = cells.few;
        some_level = whole.some_level;
        levels_fit = whole.few_levels;
        some_worker = whole.some_worker;
        workers_fit = whole.few_workers;
        tables_fit = tabled.many;
        tables = tabled.formed;
        steps = made.steps;
      };
      more = [];
      lines = sym r.lines ∙ sym (append-nil ls);
    }

-- whatever lines lead to a state, some program's lines begin so
pub lives : (s : State) (ls : List Line) → Reached s ls → Lives ls
lives s ls r = lives_by s.phase s ls r
