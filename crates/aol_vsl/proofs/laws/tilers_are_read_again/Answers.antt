use Rattle.aol_vsl.proofs.TilersAgain.{tiler_again}
use Rattle.aol_vsl.proofs.laws.tilers_are_read_again.Goals as goal

pub returns : goal.returns
returns c = tiler_again
