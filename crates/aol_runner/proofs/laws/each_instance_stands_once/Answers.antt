use Rattle.aol_runner.proofs.Standing.{each_instance_stands_once}
use Rattle.aol_runner.proofs.laws.each_instance_stands_once.Goals as goal

pub returns : goal.returns
returns c = each_instance_stands_once
