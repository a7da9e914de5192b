use Rattle.std.proofs.Common.{length}
use Rattle.aol_lower.proofs.element.+shape_named.Given as goal

abbrev pub decreases-shape_named : goal.decreases-shape_named
decreases-shape_named l = length l.ins.now
