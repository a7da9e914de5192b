use Rattle.std.proofs.Common.{length}
use Rattle.aol_flat.proofs.flat.Flat.+cells_from.Given as goal

abbrev pub decreases-cells_from : goal.decreases-cells_from
decreases-cells_from l = length l.into.now
