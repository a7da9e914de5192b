-- What `exec` answers to a JSON tree.
use Rattle.std.specs.Prelude.{◌≡◌, ℕ, ◌<◌, ◌≤◌, List, length, nat_lt, Option, Some, None, if◌then◌else◌}
use Rattle.serde_json.specs.Data.{Data}
use Rattle.aol_shape.specs.declared.limit.LimitName.{LimitName}
use Rattle.aol_shape.specs.declared.limit.LimitName.TheVariants.{Cells, Work}
use Rattle.aol_model_types.specs.Places.{PlaceOf}
use Rattle.aol_csyn.specs.Tree.{Program}
use Rattle.aol_csyn.specs.Meaning.{Arrays}
use Rattle.aol_cexec.specs.declared.work.TheConstants.{MAX_CELLS, MAX_WORK}
use Rattle.aol_cexec.specs.Exec.{opened, EndsWith, IsStuckAt}
use Rattle.aol_cexec.specs.Work.{program_work}
use Rattle.aol_exec.specs.Job.{Job, Asks, IsWrongAt, program_place}
use Rattle.aol_exec.specs.Lines.{arrays_lines}

-- An answer: the tree is wrong at a place; the program there passes a limit; `memory` is too long; a step is stuck; or the lines of the final arrays.
pub data Answer : Type 0 where
  wrong : PlaceOf → Answer
  past : PlaceOf → LimitName → Answer
  long_memory : Answer
  stuck : (level worker : ℕ) → Answer
  ended : List ℕ → Answer

-- the first limit that a program passes, on its cells and then on its work
abbrev pub first_limit : Program → Option LimitName
first_limit p = if nat_lt MAX_CELLS p.cells then Some Cells else (if nat_lt MAX_WORK (program_work p) then Some Work else None)

-- the job is run: its program passes no limit, and has a cell for each number
pub record Runs (j : Job) : Type 0 where
  pub within : first_limit j.program ≡ None
  pub room : length j.memory ≤ j.program.cells

-- the arrays before the first step
abbrev pub opening : Job → Arrays
opening j = opened j.program.cells j.memory

-- its run comes to an end, with the arrays that have these lines
pub record EndsIn (j : Job) (text : List ℕ) : Type 0 where
  pub end : Arrays
  pub ends : EndsWith j.program j.order (opening j) end
  pub lines : text ≡ arrays_lines end

-- what is answered to a job
abbrev pub JobAnswers : Job → Answer → Type 0
JobAnswers j (wrong place) = ⊥
JobAnswers j (past place passed) = (place ≡ program_place) × (first_limit j.program ≡ Some passed)
JobAnswers j long_memory = (first_limit j.program ≡ None) × (j.program.cells < length j.memory)
JobAnswers j (stuck level worker) = Runs j × IsStuckAt j.program j.order (opening j) level worker
JobAnswers j (ended text) = Runs j × EndsIn j text

-- what is answered to a tree: the first wrong place, or else what is answered to the job that it asks for
pub data Answers (d : Data) : Answer → Type 0 where
  no_job : (place : PlaceOf) → IsWrongAt d place → Answers d (wrong place)
  of_job : (j : Job) → Asks d j → (a : Answer) → JobAnswers j a → Answers d a
