use Rattle.aol_vsl.proofs.Grammars.{shape_right}
use Rattle.aol_vsl.proofs.laws.shapes_are_read_right.Goals as goal

pub returns : goal.returns
returns c = shape_right
