-- What an instance does beside its expressions: it looks for the first fault among its inputs, and tests the widths of its ports.
use Rattle.std.specs.Prelude.{◌≡◌, ℕ, zero, suc, ◌+◌, ◌<◌, ◌≤◌, ◌^◌, ℤ, pos, negsuc, ◌+ℤ◌, Bool, true, ◌&&◌, List, [], ◌∷◌, ◌++◌, take, drop, length, slice_get, Option, Some, Result, Ok, Err, if◌then◌else◌}
use Rattle.std.specs.List.{list_all}
use Rattle.aol_shape.specs.Shape.{size}
use Rattle.aol_expr_tree.specs.declared.port.Port.{Port}
use Rattle.aol_expr_tree.specs.declared.value.Kind.{Kind}
use Rattle.aol_expr_tree.specs.declared.value.Kind.TheVariants.{Range}
use Rattle.aol_expr_tree.specs.declared.value.Width.{Width}
use Rattle.aol_expr_tree.specs.declared.value.Width.TheVariants.{Int16, Int32, Int64}
use Rattle.aol_expr_tree.specs.Meaning.{holds, nth_number}
use Rattle.aol_csyn.specs.Tree.{Stmt, stmts, cell_f, var as variable, num as number, bin as between, set_var, for_each}
use Rattle.aol_csyn.specs.declared.program.COp.TheVariants.{Eq as Equal}
use Rattle.aol_csyn.specs.Meaning.{State, is_zero, table_entry, run_all}
use Rattle.aol_lower.specs.declared.reads.Reads.{Reads}
use Rattle.aol_lower.specs.Effect.{Keeps, kind_number}
use Rattle.aol_lower.specs.Lowered.{nought, fail, either, guard, at_most, then_do, entry_at, fetched}

-- ---- widths

-- a number that the width holds, or else the fault
abbrev pub fitted : Width → ℤ → Result ℤ Kind
fitted w z = if holds w z then Ok z else Err Range

-- the numbers of each port are held by its width; they stand one port after another
abbrev pub all_hold : List Port → List Width → List ℤ → Bool
all_hold [] ws nums = true
all_hold (p ∷ ps) [] nums = true
all_hold (p ∷ ps) (w ∷ ws) nums = list_all (holds w) (take (size p.shape) nums) && all_hold ps ws (drop (size p.shape) nums)

-- From this state the statements are not stuck. They leave the fault `Range` exactly where it doesn't hold, and change no variable below d.
pub record Tests (tables : List (List ℤ)) (body : List Stmt) (d : ℕ) (s : State) (ok : Bool) : Type 0 where
  pub end : State
  pub runs : run_all tables (stmts body) s ≡ Some end
  pub keeps : Keeps d s end
  pub fault : slice_get end.vars 0 ≡ Some (pos (if ok then 0 else kind_number Range))

-- the variable holds a number from one bound to another, or else there is the fault
abbrev pub within : ℤ → ℤ → ℕ → List Stmt
within low high d = either (at_most (number low) (variable d)) (either (at_most (variable d) (number high)) [] (fail Range ∷ [])) (fail Range ∷ [])

-- it holds a number of the width
abbrev pub width_test : Width → ℕ → List Stmt
width_test Int16 d = within (negsuc 32767) (pos 32767) d
width_test Int32 d = within (negsuc 2147483647) (pos 2147483647) d
width_test Int64 d = []

-- so many numbers, read from a place on, are of the width
abbrev pub each_test : Reads → Width → ℤ → ℕ → ℕ → List Stmt
each_test reads w start size d = for_each (d + 1) (pos 0) (pos size) (stmts (guard (then_do (fetched reads start (d + 1) d) (width_test w d)) ∷ [])) ∷ []

-- the same, where 64 bits need no test
abbrev pub numbers_test : Reads → Width → ℤ → ℕ → ℕ → List Stmt
numbers_test reads Int16 start size d = each_test reads Int16 start size d
numbers_test reads Int32 start size d = each_test reads Int32 start size d
numbers_test reads Int64 start size d = []

-- those of all ports
abbrev pub ports_test : Reads → List Port → List Width → ℤ → ℕ → List Stmt
ports_test reads [] ws start d = []
ports_test reads (p ∷ ps) [] start d = []
ports_test reads (p ∷ ps) (w ∷ ws) start d = numbers_test reads w start (size p.shape) d ++ ports_test reads ps ws (start +ℤ pos (size p.shape)) d

-- ---- the first fault; 0 stands for none

-- the first number that isn't 0
abbrev pub first_mark : List ℤ → ℤ
first_mark [] = pos 0
first_mark (z ∷ zs) = if is_zero z then first_mark zs else z

-- an entry leads to the mark of its cell; a number of a table has none
abbrev pub IsMarkAt : List ℤ → ℤ → ℤ → Type 0
IsMarkAt f (pos cell) z = slice_get f cell ≡ Some z
IsMarkAt f (negsuc k) z = z ≡ pos 0

-- the entry at a place leads to the mark
pub record IsMarked (tables : List (List ℤ)) (reads : Reads) (f : List ℤ) (place : ℕ) (z : ℤ) : Type 0 where
  pub entry : ℤ
  pub there : table_entry tables reads.entries (pos place) ≡ Some entry
  pub leads : IsMarkAt f entry z

-- each read from a place on has its mark
pub record AreMarked (tables : List (List ℤ)) (reads : Reads) (s : State) (marks : List ℤ) : Type 0 where
  pub from : ℕ
  pub from_is : slice_get s.vars 1 ≡ Some (pos from)
  pub within : from + length marks < 2 ^ 63
  pub each : (k : ℕ) → k < length marks → IsMarked tables reads s.f (from + k) (nth_number marks k)

-- the mark of the read with the number in a variable
abbrev pub marked : Reads → ℕ → ℕ → List Stmt
marked reads rank d = either (at_most nought (entry_at reads (pos 0) rank)) (set_var d (cell_f (entry_at reads (pos 0) rank)) ∷ []) []

-- the first mark of so many reads
abbrev pub first_fault : Reads → ℕ → ℕ → List Stmt
first_fault reads count d = set_var d nought ∷ for_each (d + 1) (pos 0) (pos count) (stmts (either (between Equal (variable d) nought) (marked reads (d + 1) d) [])) ∷ []

-- From this state the statements are not stuck. They leave the number in the variable, and change no variable below it, nor that of the fault.
pub record LeavesMark (tables : List (List ℤ)) (body : List Stmt) (d : ℕ) (s : State) (z : ℤ) : Type 0 where
  pub end : State
  pub runs : run_all tables (stmts body) s ≡ Some end
  pub keeps : Keeps d s end
  pub fault : slice_get end.vars 0 ≡ slice_get s.vars 0
  pub there : slice_get end.vars d ≡ Some z
