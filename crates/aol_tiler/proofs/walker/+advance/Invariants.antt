use Rattle.std.proofs.Common.{length}
use Rattle.aol_tiler.proofs.walker.+advance.Given as goal

abbrev pub decreases-advance : goal.decreases-advance
decreases-advance l = length l.columns.now
