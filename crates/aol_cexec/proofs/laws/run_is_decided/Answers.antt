use Rattle.aol_cexec.proofs.laws.run_is_decided.Goals as goal
use Rattle.aol_cexec.proofs.Decided.{run_is_decided}

pub returns : goal.returns
returns c = run_is_decided
