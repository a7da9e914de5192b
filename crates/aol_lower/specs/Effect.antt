-- What the statements of an expression leave. Variable 0 holds the fault, variable 1 the place of the instance's first read, and the variables from 2 on the output point.
use Rattle.std.specs.Prelude.{◌≡◌, ℕ, zero, suc, ◌+◌, ◌<◌, ◌≤◌, ◌^◌, ℤ, pos, negsuc, true, List, [], ◌∷◌, length, slice_get, Option, Some, Result, Ok, Err}
use Rattle.std.specs.List.{AllByRecursion}
use Rattle.aol_shape.specs.Numbers.{fits_64}
use Rattle.aol_shape.specs.Shape.{size, IsShape}
use Rattle.aol_expr_tree.specs.declared.port.Port.{Port}
use Rattle.aol_expr_tree.specs.declared.value.Kind.{Kind}
use Rattle.aol_expr_tree.specs.declared.value.Kind.TheVariants.{Overflow, Divide, Index, Range}
use Rattle.aol_expr_tree.specs.Meaning.{Given, nth_number}
use Rattle.aol_csyn.specs.Tree.{Stmt, stmts}
use Rattle.aol_lower.specs.declared.reads.Reads.{Reads}
use Rattle.aol_csyn.specs.Meaning.{State, entry, table_entry, run_all}

-- the number of a fault's kind; 0 stands for no fault
abbrev pub kind_number : Kind → ℕ
kind_number Overflow = 1
kind_number Divide = 2
kind_number Index = 3
kind_number Range = 4

-- the arrays are as they were, and so are the variables below this one, but that of the fault
pub record Keeps (d : ℕ) (old new : State) : Type 0 where
  pub v : new.v ≡ old.v
  pub f : new.f ≡ old.f
  pub size : length new.vars ≡ length old.vars
  pub below : (k : ℕ) → 0 < k → k < d → slice_get new.vars k ≡ slice_get old.vars k

-- there is no fault
abbrev pub IsSound : State → Type 0
IsSound s = slice_get s.vars 0 ≡ Some (pos 0)

-- the variable holds the number, which has 64 bits, and there is no fault; or there is the fault
abbrev pub Holds : State → ℕ → Result ℤ Kind → Type 0
Holds s d (Ok z) = (slice_get s.vars d ≡ Some z) × (fits_64 z ≡ true) × IsSound s
Holds s d (Err kind) = slice_get s.vars 0 ≡ Some (pos (kind_number kind))

-- From this state the statements are not stuck. They leave the number in the variable, or the fault, and change no variable below it.
pub record Leaves (tables : List (List ℤ)) (body : List Stmt) (d : ℕ) (s : State) (r : Result ℤ Kind) : Type 0 where
  pub end : State
  pub runs : run_all tables (stmts body) s ≡ Some end
  pub keeps : Keeps d s end
  pub holds : Holds end d r

-- ---- where the numbers of the inputs stand: an entry from 0 on is a cell of V, -1 the first of a table of numbers, -2 the next

-- an entry leads to the number
abbrev pub IsAt : List (List ℤ) → List ℤ → ℕ → ℤ → ℤ → Type 0
IsAt tables v numbers (pos cell) z = slice_get v cell ≡ Some z
IsAt tables v numbers (negsuc k) z = table_entry tables numbers (pos k) ≡ Some z

-- the entry at a place leads to the number
pub record IsRead (tables : List (List ℤ)) (reads : Reads) (v : List ℤ) (place : ℕ) (z : ℤ) : Type 0 where
  pub entry : ℤ
  pub there : table_entry tables reads.entries (pos place) ≡ Some entry
  pub fits : fits_64 entry ≡ true
  pub leads : IsAt tables v reads.numbers entry z

-- each number of a list is read from a place on
pub record AreRead (tables : List (List ℤ)) (reads : Reads) (s : State) (nums : List ℤ) : Type 0 where
  pub from : ℕ
  pub from_is : slice_get s.vars 1 ≡ Some (pos from)
  pub within : from + length nums < 2 ^ 63
  pub each : (k : ℕ) → k < length nums → IsRead tables reads s.v (from + k) (nth_number nums k)

-- how many numbers the patterns of ports have
abbrev pub patterns_size : List Port → ℕ
patterns_size [] = 0
patterns_size (p ∷ ps) = size p.shape + patterns_size ps

-- each port has a shape
abbrev pub AreShapes : List Port → Type 0
AreShapes ports = AllByRecursion (λ (p : Port). IsShape p.shape) ports

-- the state holds what an expression is evaluated with: numbers of 64 bits, as many as the ports have, and the output point, below the variable
pub record IsGiven (tables : List (List ℤ)) (reads : Reads) (g : Given) (d : ℕ) (s : State) : Type 0 where
  pub sound : IsSound s
  pub whole : length g.nums ≡ patterns_size g.ins
  pub fits : (k : ℕ) → fits_64 (nth_number g.nums k) ≡ true
  pub are_read : AreRead tables reads s g.nums
  pub point : (k i : ℕ) → slice_get g.at k ≡ Some i → (slice_get s.vars (k + 2) ≡ Some (pos i)) × (i < 2 ^ 63)
  pub above : length g.at + 2 ≤ d
