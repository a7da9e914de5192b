use Rattle.aol_flat.proofs.Acyclic.{acyclic_is_grounded}
use Rattle.aol_flat.proofs.laws.acyclic_is_grounded.Goals as goal

pub returns : goal.returns
returns c = acyclic_is_grounded
