use Rattle.aol_runner.proofs.Alike.{outputs_are_one}
use Rattle.aol_runner.proofs.laws.outputs_are_one.Goals as goal

pub returns : goal.returns
returns c = outputs_are_one
