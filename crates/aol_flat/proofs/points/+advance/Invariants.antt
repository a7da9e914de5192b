use Rattle.std.proofs.Common.{length}
use Rattle.aol_flat.proofs.points.+advance.Given as goal

abbrev pub decreases-advance : goal.decreases-advance
decreases-advance l = length l.entries.now
