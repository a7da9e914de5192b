use Rattle.aol_vsl.proofs.Grammars.{shape_once}
use Rattle.aol_vsl.proofs.laws.shapes_have_one_reading.Goals as goal

pub returns : goal.returns
returns c = shape_once
