use Rattle.aol_assign.proofs.GivenCells.{given_by_cells}
use Rattle.aol_assign.proofs.laws.given_by_cells.Goals as goal

pub returns : goal.returns
returns c = given_by_cells
