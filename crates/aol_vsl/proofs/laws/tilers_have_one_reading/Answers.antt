use Rattle.aol_vsl.proofs.TilerGrammar.{tiler_once}
use Rattle.aol_vsl.proofs.laws.tilers_have_one_reading.Goals as goal

pub returns : goal.returns
returns c = tiler_once
