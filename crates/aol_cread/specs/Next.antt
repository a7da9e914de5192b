-- Where the next line leads.
use Rattle.std.specs.Prelude.{◌≡◌, ◌+◌, ◌^◌, nat_lt, ◌==◌, int_le, Bool, true, false, ◌&&◌, not, List, [], ◌∷◌, ◌++◌, length, Option, Some, None, if◌then◌else◌}
use Rattle.aol_csyn.specs.Tree.{Expr, Stmt, set_var, put_v, put_f, if_else, for_each, stmts}
use Rattle.aol_csyn.specs.Form.{expr_formed}
use Rattle.aol_cread.specs.Lines.{Line, head_line, type_line, table_line, v_line, f_line, step_line, var_line, set_line, put_v_line, put_f_line, if_line, else_line, for_line, close_line, run_line, call_line}
use Rattle.aol_cread.specs.States.{Frame, in_for, in_first, in_second, State, is_held}
use Rattle.aol_cread.specs.declared.building.Phase.{Phase}
use Rattle.aol_cread.specs.declared.building.Phase.TheVariants.{Start, Headed, Tables, Celled, Between, Inside, Running, Ended}

-- where a test holds
abbrev pub where_true : Bool → State → Option State
where_true true s = Some s
where_true false s = None

-- the list with one more at the end
abbrev pub with_last : {A : Type 0} → List A → A → List A
with_last xs x = xs ++ x ∷ []

-- one more statement
abbrev pub with_stmt : State → Stmt → State
with_stmt s st = record s { here = with_last s.here st }

-- one more open block
abbrev pub with_frame : State → Frame → State
with_frame s f = record s { frames = f ∷ s.frames; here = [] }

-- an expression that fits the variables and the tables
abbrev pub fits_here : State → Expr → Bool
fits_here s e = expr_formed s.vars (length s.tables) e

-- before the arrays
abbrev pub after_tables : State → Line → Option State
after_tables s (table_line t numbers) = where_true (t == length s.tables && nat_lt (t + 1) (2 ^ 32)) (record s { tables = with_last s.tables numbers })
after_tables s (v_line cells) = where_true (not (cells == 0)) (record s { phase = Celled; cells = cells })
after_tables s l = None

-- the step after one of this level and worker
abbrev pub advanced : State → State
advanced s = if s.worker + 1 == s.workers then record s { level = s.level + 1; worker = 0 } else record s { worker = s.worker + 1 }

-- a step of this level and worker begins
abbrev pub opened : State → State
opened s = record s { phase = Inside; vars = 0; frames = []; here = [] }

-- there may be one more level, and one more worker: their counts have 32 bits
abbrev pub has_room : State → Bool
has_room s = nat_lt (s.level + 1) (2 ^ 32) && nat_lt (s.worker + 1) (2 ^ 32)

-- level 0 ends where level 1 begins
abbrev pub second_level : State → State
second_level s = record s { level = 1; worker = 0; workers = s.worker }

-- between steps
abbrev pub after_between : State → Line → Option State
after_between s (step_line l w) =
    if l == s.level && w == s.worker then where_true (has_room s) (opened s)
    else where_true (l == 1 && w == 0 && s.workers == 0 && not (s.worker == 0)) (opened (second_level s))
after_between s run_line =
    if s.workers == 0 then where_true (not (s.worker == 0)) (record s { phase = Running; workers = s.worker; levels = 1; level = 0; worker = 0 })
    else where_true (s.worker == 0) (record s { phase = Running; levels = s.level; level = 0; worker = 0 })
after_between s l = None

-- a block or the step ends
abbrev pub closed : State → List Frame → Option State
closed s [] = where_true (has_room s) (advanced (record s { phase = Between; steps = with_last s.steps (record { vars = s.vars; body = stmts s.here }); here = [] }))
closed s (in_for k a b before ∷ frames) = Some (record s { frames = frames; here = with_last before (for_each k a b (stmts s.here)) })
closed s (in_first e before ∷ frames) = None
closed s (in_second e first before ∷ frames) = Some (record s { frames = frames; here = with_last before (if_else e (stmts first) (stmts s.here)) })

-- the second body begins
abbrev pub turned : State → List Frame → Option State
turned s [] = None
turned s (in_for k a b before ∷ frames) = None
turned s (in_first e before ∷ frames) = Some (record s { frames = in_second e s.here before ∷ frames; here = [] })
turned s (in_second e first before ∷ frames) = None

-- nothing is there
abbrev pub is_empty : {A : Type 0} → List A → Bool
is_empty [] = true
is_empty (x ∷ xs) = false

-- inside a step
abbrev pub after_inside : State → Line → Option State
after_inside s (var_line k) = where_true (k == s.vars && is_empty s.frames && is_empty s.here && nat_lt (s.vars + 1) (2 ^ 32)) (record s { vars = s.vars + 1 })
after_inside s (set_line k e) = where_true (nat_lt k s.vars && fits_here s e && not (is_held k s.frames)) (with_stmt s (set_var k e))
after_inside s (put_v_line at e) = where_true (fits_here s at && fits_here s e) (with_stmt s (put_v at e))
after_inside s (put_f_line at e) = where_true (fits_here s at && fits_here s e) (with_stmt s (put_f at e))
after_inside s (if_line e) = where_true (fits_here s e) (with_frame s (in_first e s.here))
after_inside s (for_line k a b) = where_true (nat_lt k s.vars && int_le a b && not (is_held k s.frames) && nat_lt (length s.frames) 1024) (with_frame s (in_for k a b s.here))
after_inside s else_line = turned s s.frames
after_inside s close_line = closed s s.frames
after_inside s l = None

-- inside `run`
abbrev pub after_running : State → Line → Option State
after_running s (call_line l w) = where_true (l == s.level && w == s.worker && nat_lt s.level s.levels && has_room s) (advanced s)
after_running s close_line = where_true (s.level == s.levels) (record s { phase = Ended })
after_running s l = None

-- the first line
abbrev pub after_start : State → Line → Option State
after_start s head_line = Some (record s { phase = Headed })
after_start s l = None

-- the second line
abbrev pub after_headed : State → Line → Option State
after_headed s type_line = Some (record s { phase = Tables })
after_headed s l = None

-- the line of the second array
abbrev pub after_celled : State → Line → Option State
after_celled s (f_line cells) = where_true (cells == s.cells) (record s { phase = Between })
after_celled s l = None

-- by what comes next
abbrev pub after_phase : Phase → State → Line → Option State
after_phase Start s l = after_start s l
after_phase Headed s l = after_headed s l
after_phase Tables s l = after_tables s l
after_phase Celled s l = after_celled s l
after_phase Between s l = after_between s l
after_phase Inside s l = after_inside s l
after_phase Running s l = after_running s l
after_phase Ended s l = None

-- what is known after one more line, where a program goes on with it
unfoldable pub next : State → Line → Option State
next s l = after_phase s.phase s l

-- before the first line
abbrev pub nothing_read : State
nothing_read = record { phase = Start; tables = []; cells = 0; steps = []; level = 0; worker = 0; workers = 0; levels = 0; vars = 0; frames = []; here = [] }

-- what a step that may be refused leads to
abbrev pub Leads : {A : Type 0} → Option A → Bool → A → Type 0
Leads r true new = r ≡ Some new
Leads r false new = r ≡ None
