use Rattle.aol_exec.proofs.EachTree.{exec_is_decided}
use Rattle.aol_exec.proofs.laws.exec_is_decided.Goals as goal

pub returns : goal.returns
returns c = exec_is_decided
