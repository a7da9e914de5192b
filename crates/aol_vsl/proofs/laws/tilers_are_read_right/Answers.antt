use Rattle.aol_vsl.proofs.TilerGrammar.{tiler_right}
use Rattle.aol_vsl.proofs.laws.tilers_are_read_right.Goals as goal

pub returns : goal.returns
returns c = tiler_right
