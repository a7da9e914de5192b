use Rattle.std.proofs.Common.{◌≡◌, ◌*◌, drop}
use Rattle.aol_shape.specs.Shape.{size}
use Rattle.aol_change.proofs.unblocked.points_of.Given as goal

abbrev pub invariant-loop-entry : goal.invariant-loop-entry
invariant-loop-entry l = l.points * size (drop l.entry-index l.space) ≡ size l.space
