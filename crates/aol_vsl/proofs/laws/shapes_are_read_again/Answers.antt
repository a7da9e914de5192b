use Rattle.aol_vsl.proofs.Again.{shape_again}
use Rattle.aol_vsl.proofs.laws.shapes_are_read_again.Goals as goal

pub returns : goal.returns
returns c = shape_again
