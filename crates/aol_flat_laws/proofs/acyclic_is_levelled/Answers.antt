use Rattle.aol_flat_laws.proofs.AcyclicLevels.{acyclic_is_levelled}
use Rattle.aol_flat_laws.proofs.acyclic_is_levelled.Goals as goal

pub returns : goal.returns
returns c = acyclic_is_levelled
