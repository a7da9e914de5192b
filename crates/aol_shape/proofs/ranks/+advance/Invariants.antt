use Rattle.std.proofs.Common.{length}
use Rattle.aol_shape.proofs.ranks.+advance.Given as goal

abbrev pub decreases-advance : goal.decreases-advance
decreases-advance l = length l.entries.now
