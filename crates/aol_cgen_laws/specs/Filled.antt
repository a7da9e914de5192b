-- When a step that fills the cells of its instances is right.
use Rattle.std.specs.Prelude.{◌≡◌, ℕ, ◌<◌, List, map, flat_map, length, slice_get, Some}
use Rattle.aol_expr_tree.specs.declared.value.Val.{Val}
use Rattle.aol_model_types.specs.declared.document.Model.{Model}
use Rattle.aol_flat.specs.Net.{Net, Memory, reads_at, writes_at, read_value, IsSettled}
use Rattle.aol_csyn.specs.Tree.{Stmt, stmts, Step, Program}
use Rattle.aol_csyn.specs.Meaning.{Arrays, step_start, step_of_worker}
use Rattle.aol_cstep.specs.Effect.{Fills}
use Rattle.aol_cgen_laws.specs.Emitted.{output_sizes, StepIsRight}

-- the cells that some instances write, instance after instance
abbrev pub all_writes : Net → List ℕ → List ℕ
all_writes net js = flat_map (writes_at net) js

-- what an instance gives for what a memory holds
abbrev pub gives_in : Net → Memory → ℕ → List Val
gives_in net mem j = net.gives j (map (read_value mem) (reads_at net j))

-- what they give
abbrev pub all_given : Net → Memory → List ℕ → List Val
all_given net mem js = flat_map (gives_in net mem) js

-- these are the instances of a level and a worker
pub record AreOfStep (levels workers : List ℕ) (level worker : ℕ) (js : List ℕ) : Type 0 where
  pub at_level : (i j : ℕ) → slice_get js i ≡ Some j → slice_get levels j ≡ Some level
  pub at_worker : (i j : ℕ) → slice_get js i ≡ Some j → slice_get workers j ≡ Some worker
  pub all : (j : ℕ) → slice_get levels j ≡ Some level → slice_get workers j ≡ Some worker → (i : ℕ) × (slice_get js i ≡ Some j)

-- for as many values as it reads, an instance gives one for each cell that it writes
abbrev pub GiveForEach : Net → Type 0
GiveForEach net = (j : ℕ) (xs : List Val) → length xs ≡ length (reads_at net j) → length (net.gives j xs) ≡ length (writes_at net j)

-- each cell that an instance writes is one of the arrays
abbrev pub AreInside : Net → Arrays → Type 0
AreInside net a = (j k c : ℕ) → slice_get (writes_at net j) k ≡ Some c → (c < length a.0) × (c < length a.1)

-- a step is right whose statements fill the cells of its instances with what they give for a settled memory
abbrev pub FilledIsRight : Type 0
FilledIsRight =
    (m : Model) (net : Net) (levels workers : List ℕ) (p : Program) (level worker : ℕ) (js : List ℕ) (mem : Memory) (a : Arrays) (step : Step) (body : List Stmt)
    → step_of_worker p level worker ≡ Some step → step.body ≡ stmts body → AreOfStep levels workers level worker js → GiveForEach net → IsSettled net mem → AreInside net a
    → Fills p.tables (output_sizes m.tasks) body (step_start step a) (all_writes net js) (all_given net mem js)
    → StepIsRight m net levels workers p level worker mem a
