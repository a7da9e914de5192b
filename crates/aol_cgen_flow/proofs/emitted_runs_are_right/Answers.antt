use Rattle.aol_cgen_flow.proofs.Running.{emitted_runs_are_right}
use Rattle.aol_cgen_flow.proofs.emitted_runs_are_right.Goals as goal

pub returns : goal.returns
returns c = emitted_runs_are_right
