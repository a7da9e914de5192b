-- What the statements of an expression promise.
use Rattle.std.specs.Prelude.{◌≡◌, ℕ, ◌+◌, ◌*◌, ◌<◌, ◌≤◌, ◌^◌, ℤ, true, false, List, [], length}
use Rattle.aol_shape.specs.Numbers.{fits_64}
use Rattle.aol_expr_tree.specs.declared.port.Port.{Port}
use Rattle.aol_expr_tree.specs.declared.value.Width.{Width}
use Rattle.aol_expr_tree.specs.Meaning.{◌>>=◌, Given, nth_number, value}
use Rattle.aol_expr_tree.specs.Tree.{Tree, depth}
use Rattle.aol_csyn.specs.Meaning.{State}
use Rattle.aol_csyn.specs.Tree.{Stmt, stmts}
use Rattle.aol_csyn.specs.Form.{any_sets, stmts_depth, stmts_formed}
use Rattle.aol_lower.specs.declared.reads.Reads.{Reads}
use Rattle.aol_lower.specs.Effect.{IsSound, Leaves, AreRead, AreShapes, IsGiven, patterns_size}
use Rattle.aol_lower.specs.Ports.{fitted, all_hold, Tests, first_mark, AreMarked, LeavesMark}
use Rattle.aol_lower.specs.Quiet.{all_quiet}
use Rattle.aol_lower.specs.Small.{room}

-- from each state that holds the inputs and the output point, and has room for their variables, the statements leave the value of the expression
abbrev pub LeaveValue : Reads → List Port → ℕ → ℕ → Tree → List Stmt → Type 0
LeaveValue reads ins rank d e body =
    (tables : List (List ℤ)) (g : Given) (s : State) → AreShapes ins → ins ≡ g.ins → rank ≡ length g.at → IsGiven tables reads g d s → d + room e ≤ length s.vars
    → Leaves tables body d s (value g [] e)

-- among so many variables and tables the statements are well formed and go at most so deep, below a variable they set only that of the fault, and they put nothing into the arrays
pub record AreFormed (vars tables deep d : ℕ) (body : List Stmt) : Type 0 where
  pub formed : stmts_formed vars tables (stmts body) ≡ true
  pub depth : stmts_depth (stmts body) ≤ deep
  pub sets : (k : ℕ) → 0 < k → k < d → any_sets k (stmts body) ≡ false
  pub quiet : all_quiet (stmts body) ≡ true

-- so they are where there are variables and tables for them
abbrev pub AreWellFormed : Reads → List Port → ℕ → ℕ → Tree → List Stmt → Type 0
AreWellFormed reads ins rank d e body =
    (vars tables : ℕ) → AreShapes ins → patterns_size ins < 2 ^ 63 → d + room e ≤ vars → reads.entries < tables → reads.numbers < tables → AreFormed vars tables (2 * depth e + 38) d body

-- ---- beside the expressions of an instance

-- the same, with the number tested by a width
abbrev pub LeaveFitted : Reads → List Port → ℕ → ℕ → Width → Tree → List Stmt → Type 0
LeaveFitted reads ins rank d w e body =
    (tables : List (List ℤ)) (g : Given) (s : State) → AreShapes ins → ins ≡ g.ins → rank ≡ length g.at → IsGiven tables reads g d s → d + room e ≤ length s.vars
    → Leaves tables body d s (value g [] e >>= fitted w)

-- and well formed
abbrev pub FittedAreFormed : Reads → List Port → ℕ → Tree → List Stmt → Type 0
FittedAreFormed reads ins d e body =
    (vars tables : ℕ) → AreShapes ins → patterns_size ins < 2 ^ 63 → d + room e ≤ vars → reads.entries < tables → reads.numbers < tables → AreFormed vars tables (2 * depth e + 39) d body

-- from each state without a fault that holds the numbers of the ports, the statements tell whether their widths hold them
abbrev pub TestWidths : Reads → List Port → List Width → ℕ → List Stmt → Type 0
TestWidths reads ins ws d body =
    (tables : List (List ℤ)) (nums : List ℤ) (s : State) → IsSound s → length nums ≡ patterns_size ins → ((k : ℕ) → fits_64 (nth_number nums k) ≡ true) → AreRead tables reads s nums → d + 1 < length s.vars
    → Tests tables body d s (all_hold ins ws nums)

abbrev pub TestsAreFormed : Reads → List Port → ℕ → List Stmt → Type 0
TestsAreFormed reads ins d body = (vars tables : ℕ) → patterns_size ins < 2 ^ 63 → d + 1 < vars → reads.entries < tables → reads.numbers < tables → AreFormed vars tables 11 d body

-- from each state in which so many reads have marks, the statements leave the first that isn't 0
abbrev pub LeaveFirst : Reads → ℕ → ℕ → List Stmt → Type 0
LeaveFirst reads count d body =
    (tables : List (List ℤ)) (marks : List ℤ) (s : State) → length marks ≡ count → AreMarked tables reads s marks → d + 1 < length s.vars → LeavesMark tables body d s (first_mark marks)

abbrev pub FirstIsFormed : Reads → ℕ → List Stmt → Type 0
FirstIsFormed reads d body = (vars tables : ℕ) → d + 1 < vars → reads.entries < tables → reads.numbers < tables → AreFormed vars tables 9 d body
