use Rattle.std.proofs.Common.{length}
use Rattle.aol_lower.proofs.element.+start_named.Given as goal

abbrev pub decreases-start_named : goal.decreases-start_named
decreases-start_named l = length l.ins.now
