use Rattle.aol_paving.proofs.NewLeaves.{paved_leaves}
use Rattle.aol_paving.proofs.laws.paved_leaves.Goals as goal

pub returns : goal.returns
returns c = paved_leaves
