use Rattle.aol_lower.proofs.Expressions.{lowered_leaves_the_value}
use Rattle.aol_lower.proofs.laws.lowered_leaves_the_value.Goals as goal

pub returns : goal.returns
returns c = lowered_leaves_the_value
