use Rattle.aol_assign.proofs.InstancesDiffer.{one_number}
use Rattle.aol_assign.proofs.laws.instances_differ.Goals as goal

pub returns : goal.returns
returns c = one_number
