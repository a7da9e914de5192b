use Rattle.aol_runner.proofs.Writers.{nets_have_writers}
use Rattle.aol_runner.proofs.laws.nets_have_writers.Goals as goal

pub returns : goal.returns
returns c = nets_have_writers
