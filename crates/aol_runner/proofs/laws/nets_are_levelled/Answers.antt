use Rattle.aol_runner.proofs.Writers.{nets_are_levelled}
use Rattle.aol_runner.proofs.laws.nets_are_levelled.Goals as goal

pub returns : goal.returns
returns c = nets_are_levelled
