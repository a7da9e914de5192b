-- Which lines lead to a state, and that the next line leads on.
use Rattle.std.specs.Prelude.{◌≡◌, ℕ, suc, ◌+◌, ◌*◌, ◌^◌, ◌<◌, nat_lt, ◌==◌, Bool, true, false, ◌&&◌, not, ℤ, List, [], ◌∷◌, ◌++◌, length, Some}
use Rattle.std.specs.List.{list_all}
use Rattle.std.proofs.Common.{subst, sym, refl, ap, arith, ◌∙◌, append_assoc, length-append, inl, ◌⊎◌}
use Rattle.std.proofs.lemmas.List.{append-nil}
use Rattle.aol_shape.specs.Numbers.{fits_64}
use Rattle.aol_csyn.specs.Form.{step_formed, table_formed}
use Rattle.aol_cread.specs.Lines.{Line, head_line, type_line, table_line, v_line, f_line, step_line, run_line}
use Rattle.aol_cread.specs.States.{State, room_in, program_in}
use Rattle.aol_cread.specs.Next.{where_true, has_room, is_empty, after_phase}
use Rattle.aol_cread.specs.declared.building.Phase.{Phase}
use Rattle.aol_cread.specs.declared.building.Phase.TheVariants.{Start, Headed, Tables, Celled, Between, Inside, Running, Ended}
use Rattle.aol_cread.proofs.Exprs.{both_true, left_true, right_true}
use Rattle.aol_cread.proofs.OneLine.{FitsLine}
use Rattle.aol_cread.proofs.Shown.{tables_lines, vars_lines, steps_lines, calls_lines, front_lines, program_lines, place, nested_lines, Nested}
use Rattle.aol_cread.proofs.Places.{tables_more, two}

-- ---- what is known in each phase

pub record Tabled (s : State) : Type 0 where
  pub formed : list_all table_formed s.tables ≡ true
  pub many : length s.tables < 2 ^ 32

pub record NoStep (s : State) : Type 0 where
  pub steps : s.steps ≡ []
  pub level : s.level ≡ 0
  pub worker : s.worker ≡ 0
  pub workers : s.workers ≡ 0

pub record Celled' (s : State) : Type 0 where
  pub some : 0 < s.cells
  pub few : s.cells < 2 ^ 32

pub record Made (s : State) : Type 0 where
  pub tabled : Tabled s
  pub cells : Celled' s
  pub steps : list_all (step_formed (length s.tables)) s.steps ≡ true

-- the count of workers is known
pub record Known (s : State) : Type 0 where
  pub few : s.workers < 2 ^ 32
  pub within : s.worker < s.workers
  pub level : 0 < s.level

-- no level has ended
pub record First (s : State) : Type 0 where
  pub workers : s.workers ≡ 0
  pub level : s.level ≡ 0

pub record Placed (s : State) : Type 0 where
  pub at : place s.workers 0 0 (length s.steps) ≡ two s.level s.worker
  pub known : First s ⊎ Known s
  pub level : s.level < 2 ^ 32
  pub worker : s.worker < 2 ^ 32
  pub higher : 0 < s.worker → s.level + 1 < 2 ^ 32

pub record Whole (s : State) : Type 0 where
  pub count : length s.steps ≡ s.levels * s.workers
  pub some_level : 0 < s.levels
  pub few_levels : s.levels < 2 ^ 32
  pub some_worker : 0 < s.workers
  pub few_workers : s.workers < 2 ^ 32

abbrev pub base : State → List Line
base s = front_lines s.tables s.cells ++ steps_lines s.workers 0 0 s.steps

pub record InTables (s : State) (ls : List Line) : Type 0 where
  pub tabled : Tabled s
  pub none : NoStep s
  pub lines : ls ≡ head_line ∷ type_line ∷ tables_lines 0 s.tables

pub record InCells (s : State) (ls : List Line) : Type 0 where
  pub tabled : Tabled s
  pub none : NoStep s
  pub cells : Celled' s
  pub lines : ls ≡ (head_line ∷ type_line ∷ tables_lines 0 s.tables) ++ v_line s.cells ∷ []

pub record InBetween (s : State) (ls : List Line) : Type 0 where
  pub made : Made s
  pub placed : Placed s
  pub lines : ls ≡ base s

pub record InStep (s : State) (ls : List Line) : Type 0 where
  pub made : Made s
  pub placed : Placed s
  pub room : has_room s ≡ true
  pub vars : s.vars < 2 ^ 32
  pub nested : Nested s.vars (length s.tables) s.frames s.here
  pub lines : ls ≡ base s ++ (step_line s.level s.worker ∷ (vars_lines 0 s.vars ++ nested_lines s.frames s.here))

pub record InRun (s : State) (ls : List Line) : Type 0 where
  pub made : Made s
  pub whole : Whole s
  pub calls : ℕ
  pub at : place s.workers 0 0 calls ≡ two s.level s.worker
  pub within : (s.level < s.levels) ⊎ ((s.level ≡ s.levels) × (s.worker ≡ 0))
  pub lines : ls ≡ base s ++ (run_line ∷ calls_lines s.workers 0 0 calls)

pub record AtEnd (s : State) (ls : List Line) : Type 0 where
  pub made : Made s
  pub whole : Whole s
  pub lines : ls ≡ program_lines (program_in s)

pub record AtStart (s : State) (ls front : List Line) : Type 0 where
  pub tables : s.tables ≡ []
  pub none : NoStep s
  pub lines : ls ≡ front

abbrev pub ReachedAt : Phase → State → List Line → Type 0
ReachedAt Start s ls = AtStart s ls []
ReachedAt Headed s ls = AtStart s ls (head_line ∷ [])
ReachedAt Tables s ls = InTables s ls
ReachedAt Celled s ls = InCells s ls
ReachedAt Between s ls = InBetween s ls
ReachedAt Inside s ls = InStep s ls
ReachedAt Running s ls = InRun s ls
ReachedAt Ended s ls = AtEnd s ls

-- these lines lead to the state
abbrev pub Reached : State → List Line → Type 0
Reached s ls = ReachedAt s.phase s ls

-- ---- tests

pub held : (b : Bool) (t u : State) → where_true b t ≡ Some u → (b ≡ true) × (t ≡ u)
held true t u h = (refl, cc)
held false t u h = absurd (cc)

pub same_numbers : (a b : ℕ) → (a == b) ≡ true → a ≡ b
same_numbers a b h = grind (arith, h)

pub below : (a b : ℕ) → nat_lt a b ≡ true → a < b
below a b h = grind (arith, h)

pub not_zero : (a : ℕ) → not (a == 0) ≡ true → 0 < a
not_zero a h = grind (arith, h)

pub is_not : (a : Bool) → not a ≡ true → a ≡ false
is_not true h = absurd (cc)
is_not false h = refl

pub all_more : {A : Type 0} (p : A → Bool) (xs : List A) (x : A) → list_all p xs ≡ true → p x ≡ true → list_all p (xs ++ x ∷ []) ≡ true
all_more p [] x h k = both_true (p x) true k refl
all_more p (y ∷ xs) x h k = both_true (p y) (list_all p (xs ++ x ∷ [])) (left_true (p y) (list_all p xs) h) (all_more p xs x (right_true (p y) (list_all p xs) h) k)

pub long_more : {A : Type 0} (xs : List A) (x : A) → length (xs ++ x ∷ []) ≡ suc (length xs)
long_more xs x = let long = length-append xs (x ∷ []) in omega (arith, long)

pub nothing_there : {A : Type 0} (xs : List A) → is_empty xs ≡ true → xs ≡ []
nothing_there [] h = refl
nothing_there (x ∷ xs) h = absurd (cc)

-- ---- before the steps

table_ok : (numbers : List ℤ) → 0 < length numbers → length numbers < 2 ^ 32 → list_all fits_64 numbers ≡ true → table_formed numbers ≡ true
table_ok numbers some few fit =
    both_true (not (length numbers == 0) && nat_lt (length numbers) (2 ^ 32)) (list_all fits_64 numbers)
    (both_true (not (length numbers == 0)) (nat_lt (length numbers) (2 ^ 32)) (grind (arith, some)) (grind (arith, few))) fit

pub in_tables : (s t : State) (l : Line) (ls : List Line) → s.phase ≡ Tables → after_phase Tables s l ≡ Some t → FitsLine (room_in s) l → InTables s ls → Reached t (ls ++ l ∷ [])
in_tables s t (table_line k numbers) ls is h fit r =
    let u = record s { tables = s.tables ++ numbers ∷ [] } in
    let test = held (k == length s.tables && nat_lt (k + 1) (2 ^ 32)) u t h in
    let one = same_numbers k (length s.tables) (left_true (k == length s.tables) (nat_lt (k + 1) (2 ^ 32)) test.0) in
    let few = below (k + 1) (2 ^ 32) (right_true (k == length s.tables) (nat_lt (k + 1) (2 ^ 32)) test.0) in
    let long = long_more s.tables numbers in
    let tabled = r.tabled in
    let here : InTables u (ls ++ table_line k numbers ∷ []) = record {
      tabled = record { formed = all_more table_formed s.tables numbers tabled.formed (table_ok numbers fit.some fit.many fit.fit); many = omega (arith, long, one, few) };
      none = record { steps = r.none.steps; level = r.none.level; worker = r.none.worker; workers = r.none.workers };
      lines = ap (λ z. z ++ table_line k numbers ∷ []) r.lines ∙ ap (λ z. head_line ∷ type_line ∷ z) (ap (λ n. tables_lines 0 s.tables ++ table_line n numbers ∷ []) (one ∙ omega arith) ∙ sym (tables_more 0 s.tables numbers));
    } in
    subst (λ x. Reached x (ls ++ table_line k numbers ∷ [])) test.1 (subst (λ ph. ReachedAt ph u (ls ++ table_line k numbers ∷ [])) (sym is) here)
in_tables s t (v_line cells) ls is h fit r =
    let u = record s { phase = Celled; cells = cells } in
    let test = held (not (cells == 0)) u t h in
    let tabled = r.tabled in let none = r.none in
    let here : InCells u (ls ++ v_line cells ∷ []) = record {
      tabled = record { formed = tabled.formed; many = tabled.many };
      none = record { steps = none.steps; level = none.level; worker = none.worker; workers = none.workers };
      cells = record { some = not_zero cells test.0; few = fit };
      lines = ap (λ z. z ++ v_line cells ∷ []) r.lines;
    } in
    subst (λ x. Reached x (ls ++ v_line cells ∷ [])) test.1 here
in_tables s t l ls is h fit r = absurd (cc)

pub in_cells : (s t : State) (l : Line) (ls : List Line) → after_phase Celled s l ≡ Some t → InCells s ls → Reached t (ls ++ l ∷ [])
in_cells s t (f_line cells) ls h r =
    let u = record s { phase = Between } in
    let test = held (cells == s.cells) u t h in
    let tabled = r.tabled in let none = r.none in let size = r.cells in
    let one = same_numbers cells s.cells test.0 in
    let level = none.level in let worker = none.worker in let steps = none.steps in
    let here : InBetween u (ls ++ f_line cells ∷ []) = record {
      made = record { tabled = record { formed = tabled.formed; many = tabled.many }; cells = record { some = size.some; few = size.few }; steps = ap (list_all (step_formed (length s.tables))) steps };
      placed = record {
        at = ap (λ xs. place s.workers 0 0 (length xs)) steps ∙ (ap (λ l. two l 0) (sym level) ∙ ap (two s.level) (sym worker));
        known = inl (record { workers = none.workers; level = level });
        level = omega (arith, level);
        worker = omega (arith, worker);
        higher = λ h. absurd (omega (arith, h, worker));
      };
      lines = ap (λ z. z ++ f_line cells ∷ []) r.lines ∙ (append_assoc (head_line ∷ type_line ∷ tables_lines 0 s.tables) (v_line s.cells ∷ []) (f_line cells ∷ [])
          ∙ (ap (λ c. (head_line ∷ type_line ∷ tables_lines 0 s.tables) ++ v_line s.cells ∷ f_line c ∷ []) one
          ∙ (sym (append-nil (front_lines s.tables s.cells)) ∙ ap (λ xs. front_lines s.tables s.cells ++ steps_lines s.workers 0 0 xs) (sym steps))));
    } in
    subst (λ x. Reached x (ls ++ f_line cells ∷ [])) test.1 here
in_cells s t l ls h r = absurd (cc)

few_tables : (ts : List (List ℤ)) → ts ≡ [] → length ts < 2 ^ 32
few_tables ts h = let n = ap (λ (xs : List (List ℤ)). length xs) h in omega (arith, n)

pub at_start : (s t : State) (l : Line) (ls : List Line) → after_phase Start s l ≡ Some t → AtStart s ls [] → Reached t (ls ++ l ∷ [])
at_start s t head_line ls h r =
    let same : record s { phase = Headed } ≡ t = cc in let none = r.none in
    let here : AtStart (record s { phase = Headed }) (ls ++ head_line ∷ []) (head_line ∷ []) =
    record { tables = r.tables; none = record { steps = none.steps; level = none.level; worker = none.worker; workers = none.workers }; lines = ap (λ z. z ++ head_line ∷ []) r.lines } in
    subst (λ x. Reached x (ls ++ head_line ∷ [])) same here
at_start s t l ls h r = absurd (cc)

pub at_second : (s t : State) (l : Line) (ls : List Line) → after_phase Headed s l ≡ Some t → AtStart s ls (head_line ∷ []) → Reached t (ls ++ l ∷ [])
at_second s t type_line ls h r =
    let same : record s { phase = Tables } ≡ t = cc in let none = r.none in
    let here : InTables (record s { phase = Tables }) (ls ++ type_line ∷ []) = record {
      tabled = record { formed = ap (list_all table_formed) r.tables; many = few_tables s.tables r.tables };
      none = record { steps = none.steps; level = none.level; worker = none.worker; workers = none.workers };
      lines = ap (λ z. z ++ type_line ∷ []) r.lines ∙ ap (λ ts. head_line ∷ type_line ∷ tables_lines 0 ts) (sym r.tables);
    } in
    subst (λ x. Reached x (ls ++ type_line ∷ [])) same here
at_second s t l ls h r = absurd (cc)
