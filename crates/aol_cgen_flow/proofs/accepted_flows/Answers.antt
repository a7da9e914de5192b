use Rattle.aol_cgen_flow.proofs.Flowing.{accepted_flows}
use Rattle.aol_cgen_flow.proofs.accepted_flows.Goals as goal

pub returns : goal.returns
returns c = accepted_flows
