-- What the statements of an instance do.
--
-- An instance reads its values from one place of the table of entries on, and writes its cells from one place of the table of cells on. Variables hold both
-- places. From each state in which what it reads is held, its statements are not stuck. They put, in order, V and then F of each of its cells and nothing
-- else, and leave there what the instance gives for what it read.
use Rattle.std.specs.Prelude.{◌≡◌, ℕ, ◌+◌, ◌<◌, ◌≤◌, ◌^◌, max, ℤ, pos, negsuc, true, false, List, [], ◌∷◌, map, length, slice_get, sum_by, Some}
use Rattle.aol_shape.specs.Numbers.{fits_64}
use Rattle.aol_shape.specs.Shape.{size}
use Rattle.aol_expr_tree.specs.declared.value.Val.{Val}
use Rattle.aol_model_types.specs.declared.task.Elementary.{Elementary}
use Rattle.aol_model_types.specs.declared.task.OutPort.{OutPort}
use Rattle.aol_flat.specs.InstanceValue.{number_of, instance_outputs}
use Rattle.aol_csyn.specs.Tree.{Stmt, stmts}
use Rattle.aol_csyn.specs.Form.{any_sets, stmts_depth, stmts_formed}
use Rattle.aol_csyn.specs.Meaning.{State, table_entry, run_all}
use Rattle.aol_csyn.specs.Puts.{all_puts}
use Rattle.aol_lower.specs.declared.reads.Reads.{Reads}
use Rattle.aol_lower.specs.Effect.{patterns_size}
use Rattle.aol_lower.specs.Small.{room}
use Rattle.aol_cinstance.specs.declared.layout.Tables.{Tables}
use Rattle.aol_cinstance.specs.declared.layout.TheConstants.{INSTANCE, CELLS, VALUE}
use Rattle.aol_cinstance.specs.Values.{points_before, mark_of, set_all, both}

-- ---- before

-- an entry leads to a value: from 0 on it is a cell, and -1 is the first of a table of numbers, -2 the next
abbrev pub IsHeldAt : List (List ℤ) → List (List ℕ) → ℕ → List ℤ → List ℤ → ℤ → Val → Type 0
IsHeldAt tables sizes numbers v f (pos c) x = (slice_get v c ≡ Some (number_of x)) × (slice_get f c ≡ Some (mark_of sizes x))
IsHeldAt tables sizes numbers v f (negsuc k) x = (table_entry tables numbers (pos k) ≡ Some (number_of x)) × (mark_of sizes x ≡ pos 0)

-- the entry at a place leads to the value
pub record IsHeld (tables : List (List ℤ)) (sizes : List (List ℕ)) (reads : Reads) (v f : List ℤ) (place : ℕ) (x : Val) : Type 0 where
  pub entry : ℤ
  pub there : table_entry tables reads.entries (pos place) ≡ Some entry
  pub fits : fits_64 entry ≡ true
  pub leads : IsHeldAt tables sizes reads.numbers v f entry x

-- the state holds what an instance reads, and has its cells, none of which it reads
pub record Stands (tables : List (List ℤ)) (sizes : List (List ℕ)) (t : Tables) (xs : List Val) (cs : List ℕ) (s : State) : Type 0 where
  pub from : ℕ
  pub from_is : slice_get s.vars 1 ≡ Some (pos from)
  pub few_reads : from + length xs < 2 ^ 63
  pub reads : (k : ℕ) (x : Val) → slice_get xs k ≡ Some x → IsHeld tables sizes t.reads s.v s.f (from + k) x
  pub fits : (k : ℕ) (x : Val) → slice_get xs k ≡ Some x → fits_64 (number_of x) ≡ true
  pub at : ℕ
  pub at_is : slice_get s.vars CELLS ≡ Some (pos at)
  pub few_cells : at + length cs < 2 ^ 63
  pub cells : (k c : ℕ) → slice_get cs k ≡ Some c → table_entry tables t.cells (pos (at + k)) ≡ Some (pos c)
  pub in_v : (k c : ℕ) → slice_get cs k ≡ Some c → c < length s.v
  pub in_f : (k c : ℕ) → slice_get cs k ≡ Some c → c < length s.f
  pub apart : (k j c : ℕ) → k < length xs → table_entry tables t.reads.entries (pos (from + k)) ≡ Some (pos c) → slice_get cs j ≡ Some c → ⊥

-- ---- after

-- the statements end, put these cells alone, and leave these values there; they change no variable that tells which instance it is
pub record Writes (tables : List (List ℤ)) (sizes : List (List ℕ)) (body : List Stmt) (s : State) (cs : List ℕ) (values : List Val) : Type 0 where
  pub end : State
  pub runs : run_all tables (stmts body) s ≡ Some end
  pub puts : all_puts tables (stmts body) s ≡ both cs
  pub v : end.v ≡ set_all s.v cs (map number_of values)
  pub f : end.f ≡ set_all s.f cs (map (mark_of sizes) values)
  pub variables : length end.vars ≡ length s.vars
  pub instance : slice_get end.vars INSTANCE ≡ slice_get s.vars INSTANCE

-- in every state that stands so, for so many reads and cells, the statements write what is given for the values read
abbrev pub Gives : List (List ℕ) → Tables → ℕ → ℕ → ℕ → (List Val → List Val) → List Stmt → Type 0
Gives sizes t reads cells vars gives body =
    (tables : List (List ℤ)) (xs : List Val) (cs : List ℕ) (s : State) → length xs ≡ reads → length cs ≡ cells → Stands tables sizes t xs cs s → vars ≤ length s.vars
    → Writes tables sizes body s cs (gives xs)

-- ---- an elementary task

-- the sizes of its output ports
abbrev pub out_sizes : List OutPort → List ℕ
out_sizes outs = map (λ (o : OutPort). size o.port.shape) outs

-- how many output elements some ports have
abbrev pub out_points : List OutPort → ℕ
out_points outs = sum_by (λ (o : OutPort). size o.port.shape) outs

-- how many variables the expressions of some ports take
abbrev pub rooms : List OutPort → ℕ
rooms [] = 2
rooms (o ∷ outs) = max (room o.expr) (rooms outs)

-- how many variables the statements of an instance take
abbrev pub variables : List OutPort → ℕ
variables outs = VALUE + rooms outs

-- the statements do what an instance of the task does, which is that number among the elementary ones and has so many output points before its own
abbrev pub Computes : Tables → Elementary → ℕ → List Stmt → Type 0
Computes t e before body =
    (sizes : List (List ℕ)) (task : ℕ) → slice_get sizes task ≡ Some (out_sizes e.outs) → points_before sizes task 0 ≡ before
    → Gives sizes t (patterns_size e.ins) (out_points e.outs) (variables e.outs) (instance_outputs task e) body

-- ---- form

-- the statements of an instance are well formed where there are such variables and tables, not deep, and don't set the variable of the loop over instances
pub record IsBody (vars tables : ℕ) (body : List Stmt) : Type 0 where
  pub formed : stmts_formed vars tables (stmts body) ≡ true
  pub depth : stmts_depth (stmts body) ≤ 1000
  pub keeps : any_sets INSTANCE (stmts body) ≡ false

abbrev pub AreBodies : Tables → ℕ → List Stmt → Type 0
AreBodies t least body = (vars tables : ℕ) → least ≤ vars → t.reads.entries < tables → t.reads.numbers < tables → t.cells < tables → IsBody vars tables body
