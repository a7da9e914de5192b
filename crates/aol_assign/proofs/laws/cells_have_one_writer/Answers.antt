use Rattle.aol_assign.proofs.CellWriters.{one_writer}
use Rattle.aol_assign.proofs.laws.cells_have_one_writer.Goals as goal

pub returns : goal.returns
returns c = one_writer
