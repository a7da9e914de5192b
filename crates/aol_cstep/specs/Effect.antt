-- What the statements of a group of instances do, and those of a step, which are groups one after another.
--
-- From each state in which what the instances read is held, and none of them reads a cell of the step, the statements are not stuck. They put, instance
-- after instance, V and then F of each cell and nothing else, and leave there what each instance gives for what it read.
use Rattle.std.specs.Prelude.{◌≡◌, ℕ, ◌+◌, ◌*◌, ◌<◌, ◌≤◌, ◌^◌, ℤ, pos, true, List, [], ◌∷◌, map, flat_map, length, slice_get, Some}
use Rattle.aol_shape.specs.Numbers.{fits_64}
use Rattle.aol_expr_tree.specs.declared.value.Val.{Val}
use Rattle.aol_flat.specs.InstanceValue.{number_of}
use Rattle.aol_csyn.specs.Tree.{Stmt, stmts}
use Rattle.aol_csyn.specs.Form.{stmts_depth, stmts_formed}
use Rattle.aol_csyn.specs.Meaning.{State, table_entry, run_all}
use Rattle.aol_csyn.specs.Puts.{all_puts}
use Rattle.aol_cinstance.specs.declared.layout.Tables.{Tables}
use Rattle.aol_cinstance.specs.declared.layout.TheConstants.{VALUE}
use Rattle.aol_cinstance.specs.Effect.{IsHeld, Gives, IsBody}
use Rattle.aol_cinstance.specs.Values.{mark_of, set_all, both}
use Rattle.aol_cstep.specs.declared.group.Group.{Group}

-- what an instance reads, and the cells that it writes
pub record Visit : Type 0 where
  pub taken : List Val
  pub cells : List ℕ

-- the cells of some instances
abbrev pub cells_of : List Visit → List ℕ
cells_of visits = flat_map (λ (v : Visit). v.cells) visits

-- what they give
abbrev pub given_by : (List Val → List Val) → List Visit → List Val
given_by gives visits = flat_map (λ (v : Visit). gives v.taken) visits

-- an instance whose entries and cells stand from these places on: what it reads is held by V and F, and none of it is one of the cells of the step, which has all its cells
pub record IsReady (tables : List (List ℤ)) (sizes : List (List ℕ)) (t : Tables) (from at : ℕ) (all : List ℕ) (v f : List ℤ) (visit : Visit) : Type 0 where
  pub reads : (k : ℕ) (x : Val) → slice_get visit.taken k ≡ Some x → IsHeld tables sizes t.reads v f (from + k) x
  pub fits : (k : ℕ) (x : Val) → slice_get visit.taken k ≡ Some x → fits_64 (number_of x) ≡ true
  pub apart : (k l c : ℕ) → k < length visit.taken → table_entry tables t.reads.entries (pos (from + k)) ≡ Some (pos c) → slice_get all l ≡ Some c → ⊥
  pub cells : (k c : ℕ) → slice_get visit.cells k ≡ Some c → table_entry tables t.cells (pos (at + k)) ≡ Some (pos c)
  pub among : (k c : ℕ) → slice_get visit.cells k ≡ Some c → (l : ℕ) × (slice_get all l ≡ Some c)
  pub in_v : (k c : ℕ) → slice_get visit.cells k ≡ Some c → c < length v
  pub in_f : (k c : ℕ) → slice_get visit.cells k ≡ Some c → c < length f

-- the instances of a group stand one after another
pub record AreReady (tables : List (List ℤ)) (sizes : List (List ℕ)) (t : Tables) (g : Group) (all : List ℕ) (v f : List ℤ) (visits : List Visit) : Type 0 where
  pub many : length visits ≡ g.count
  pub few_reads : g.from + g.count * g.reads < 2 ^ 63
  pub few_cells : g.at + g.count * g.cells < 2 ^ 63
  pub taken : (i : ℕ) (visit : Visit) → slice_get visits i ≡ Some visit → length visit.taken ≡ g.reads
  pub written : (i : ℕ) (visit : Visit) → slice_get visits i ≡ Some visit → length visit.cells ≡ g.cells
  pub each : (i : ℕ) (visit : Visit) → slice_get visits i ≡ Some visit → IsReady tables sizes t (g.from + i * g.reads) (g.at + i * g.cells) all v f visit

-- the statements end, put these cells alone, and leave these values there
pub record Fills (tables : List (List ℤ)) (sizes : List (List ℕ)) (body : List Stmt) (s : State) (cs : List ℕ) (values : List Val) : Type 0 where
  pub end : State
  pub runs : run_all tables (stmts body) s ≡ Some end
  pub puts : all_puts tables (stmts body) s ≡ both cs
  pub v : end.v ≡ set_all s.v cs (map number_of values)
  pub f : end.f ≡ set_all s.f cs (map (mark_of sizes) values)
  pub variables : length end.vars ≡ length s.vars

-- where the statements of one instance write what is given for the values read, as many as it has cells, those of the group do it for all
abbrev pub GroupFills : Group → List Stmt → Stmt → Type 0
GroupFills g instance st =
    (sizes : List (List ℕ)) (t : Tables) (vars : ℕ) (gives : List Val → List Val) → Gives sizes t g.reads g.cells vars gives instance → ((xs : List Val) → length xs ≡ g.reads → length (gives xs) ≡ g.cells)
    → (tables : List (List ℤ)) (all : List ℕ) (visits : List Visit) (s : State) → AreReady tables sizes t g all s.v s.f visits → vars ≤ length s.vars → VALUE ≤ length s.vars
    → Fills tables sizes (st ∷ []) s (cells_of visits) (given_by gives visits)

-- the statements of a step are well formed where there are such variables and tables, and not too deep
pub record IsStep (vars tables : ℕ) (body : List Stmt) : Type 0 where
  pub formed : stmts_formed vars tables (stmts body) ≡ true
  pub depth : stmts_depth (stmts body) ≤ 1001

abbrev pub GroupIsFormed : List Stmt → Stmt → Type 0
GroupIsFormed instance st = (vars tables : ℕ) → VALUE ≤ vars → IsBody vars tables instance → IsStep vars tables (st ∷ [])
