use Rattle.std.proofs.Common.{length}
use Rattle.aol_flat.proofs.run.+put_cells.Given as goal

abbrev pub decreases-put_cells : goal.decreases-put_cells
decreases-put_cells l = length l.cells.now
