use Rattle.std.proofs.Common.{length}
use Rattle.aol_trail.proofs.trail.+rank_over.Given as goal

abbrev pub decreases-rank_over : goal.decreases-rank_over
decreases-rank_over l = length l.levels.now
