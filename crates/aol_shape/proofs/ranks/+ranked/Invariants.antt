use Rattle.std.proofs.Common.{length}
use Rattle.aol_shape.proofs.ranks.+ranked.Given as goal

abbrev pub decreases-ranked : goal.decreases-ranked
decreases-ranked l = length l.shape.now
