use Rattle.aol_vsl.proofs.Again.{vector_again}
use Rattle.aol_vsl.proofs.laws.vectors_are_read_again.Goals as goal

pub returns : goal.returns
returns c = vector_again
