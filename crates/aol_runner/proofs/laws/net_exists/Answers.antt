use Rattle.aol_runner.proofs.Nets.{net_exists}
use Rattle.aol_runner.proofs.laws.net_exists.Goals as goal

pub returns : goal.returns
returns c = net_exists
