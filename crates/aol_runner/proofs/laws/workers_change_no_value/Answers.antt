use Rattle.aol_runner.proofs.Alike.{workers_change_no_value}
use Rattle.aol_runner.proofs.laws.workers_change_no_value.Goals as goal

pub returns : goal.returns
returns c = workers_change_no_value
