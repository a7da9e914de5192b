-- The parts of an instance's statements.
use Rattle.std.specs.Prelude.{◌≡◌, ℕ, ◌<◌, ◌^◌, List}
use Rattle.aol_csyn.specs.Tree.{Stmt}
use Rattle.aol_model_types.specs.declared.task.Elementary.{Elementary}
use Rattle.aol_lower.specs.Contract.{FirstIsFormed, LeaveFirst, TestWidths, TestsAreFormed}
use Rattle.aol_lower.specs.Effect.{AreShapes, patterns_size}
use Rattle.aol_cinstance.specs.declared.layout.Tables.{Tables}
use Rattle.aol_cinstance.specs.declared.layout.TheConstants.{VALUE}
use Rattle.aol_cinstance.specs.Effect.{out_points}
use Rattle.aol_cinstance.specs.Statements.{computing, ArePorts}

-- they are these parts: the search for the first fault among the inputs, the tests of their widths, and the output ports
pub record IsMade (t : Tables) (e : Elementary) (before : ℕ) (body : List Stmt) : Type 0 where
  pub search : List Stmt
  pub widths : List Stmt
  pub ports : List Stmt
  pub made : body ≡ computing t.cells (out_points e.outs) search widths ports
  pub shapes : AreShapes e.ins
  pub few_reads : patterns_size e.ins < 2 ^ 32
  pub few_cells : out_points e.outs < 2 ^ 32
  pub searches : LeaveFirst t.reads (patterns_size e.ins) VALUE search
  pub search_formed : FirstIsFormed t.reads VALUE search
  pub tests : TestWidths t.reads e.ins e.wide_in VALUE widths
  pub tests_formed : TestsAreFormed t.reads e.ins VALUE widths
  pub are_ports : ArePorts t e before 0 0 e.outs ports
