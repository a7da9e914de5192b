-- What stored lines and states stand for.
use Rattle.std.specs.Prelude.{List, map, reverse}
use Rattle.aol_csyn.specs.Stored.{expr_of, stmt_of, step_of, tables_of}
use Rattle.aol_csyn.specs.declared.program.CStmt.{CStmt}
use Rattle.aol_csyn.specs.Tree.{Stmt}
use Rattle.aol_cread.specs.Lines.{Line, head_line, type_line, table_line, v_line, f_line, step_line, var_line, set_line, put_v_line, put_f_line, if_line, else_line, for_line, close_line, run_line, call_line}
use Rattle.aol_cread.specs.States.{Frame, in_for, in_first, in_second, State}
use Rattle.aol_cread.specs.declared.line.CLine.{CLine}
use Rattle.aol_cread.specs.declared.line.CLine.TheVariants.{Head, TypeName, Table, V, F, Step, Var, Set, PutV, PutF, If, Else, For, Close, Run, Call}
use Rattle.aol_cread.specs.declared.building.Block as block
use Rattle.aol_cread.specs.declared.building.Block.TheVariants.{ForBody, FirstBody, SecondBody}
use Rattle.aol_cread.specs.declared.building.Building.{Building}

-- a line
abbrev pub line_of : CLine → Line
line_of Head = head_line
line_of TypeName = type_line
line_of (Table t numbers) = table_line t numbers
line_of (V cells) = v_line cells
line_of (F cells) = f_line cells
line_of (Step level worker) = step_line level worker
line_of (Var k) = var_line k
line_of (Set k e) = set_line k (expr_of e)
line_of (PutV at e) = put_v_line (expr_of at) (expr_of e)
line_of (PutF at e) = put_f_line (expr_of at) (expr_of e)
line_of (If e) = if_line (expr_of e)
line_of Else = else_line
line_of (For k a b) = for_line k a b
line_of Close = close_line
line_of Run = run_line
line_of (Call level worker) = call_line level worker

-- statements as trees
abbrev pub trees_of : List CStmt → List Stmt
trees_of = map stmt_of

-- an open block
abbrev pub frame_of : block.Block → Frame
frame_of (ForBody k a b before) = in_for k a b (trees_of before)
frame_of (FirstBody e before) = in_first (expr_of e) (trees_of before)
frame_of (SecondBody e first before) = in_second (expr_of e) (trees_of first) (trees_of before)

-- the open blocks, stored with the innermost last
abbrev pub frames_of : List block.Block → List Frame
frames_of blocks = map frame_of (reverse blocks)

-- a state
abbrev pub state_of : Building → State
state_of b = record {
  phase = b.phase;
  tables = tables_of b.tables;
  cells = b.cells;
  steps = map step_of b.steps;
  level = b.level;
  worker = b.worker;
  workers = b.workers;
  levels = b.levels;
  vars = b.vars;
  frames = frames_of b.blocks;
  here = trees_of b.here;
}
