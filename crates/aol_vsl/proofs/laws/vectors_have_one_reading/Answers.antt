use Rattle.aol_vsl.proofs.Grammars.{vector_once}
use Rattle.aol_vsl.proofs.laws.vectors_have_one_reading.Goals as goal

pub returns : goal.returns
returns c = vector_once
