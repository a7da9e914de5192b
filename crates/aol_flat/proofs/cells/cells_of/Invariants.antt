use Rattle.std.proofs.Common.{take}
use Rattle.aol_flat.specs.Cells.{AreCellsOf}
use Rattle.aol_flat.specs.Node.{nodes}
use Rattle.aol_flat.proofs.cells.cells_of.Given as goal

abbrev pub invariant-loop-number : goal.invariant-loop-number
invariant-loop-number l = AreCellsOf l.model (take l.number (nodes l.model)) l.cells
