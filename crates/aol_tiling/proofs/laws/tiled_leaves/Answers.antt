use Rattle.aol_tiling.proofs.NewLeaves.{tiled_leaves}
use Rattle.aol_tiling.proofs.laws.tiled_leaves.Goals as goal

pub returns : goal.returns
returns c = tiled_leaves
