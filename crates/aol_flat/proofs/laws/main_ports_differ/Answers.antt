use Rattle.aol_flat.proofs.Different.{main_ports_differ}
use Rattle.aol_flat.proofs.laws.main_ports_differ.Goals as goal

pub returns : goal.returns
returns c = main_ports_differ
