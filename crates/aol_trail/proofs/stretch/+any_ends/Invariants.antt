use Rattle.std.proofs.Common.{length}
use Rattle.aol_trail.proofs.stretch.+any_ends.Given as goal

abbrev pub decreases-any_ends : goal.decreases-any_ends
decreases-any_ends l = length l.levels.now
