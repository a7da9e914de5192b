use Rattle.aol_vsl.proofs.Grammars.{vector_right}
use Rattle.aol_vsl.proofs.laws.vectors_are_read_right.Goals as goal

pub returns : goal.returns
returns c = vector_right
