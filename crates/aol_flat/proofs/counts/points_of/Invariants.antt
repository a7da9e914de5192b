use Rattle.std.proofs.Common.{◌≡◌, take}
use Rattle.aol_shape.specs.Shape.{size}
use Rattle.aol_flat.specs.Saturated.{saturated}
use Rattle.aol_flat.proofs.counts.points_of.Given as goal

abbrev pub invariant-loop-entry : goal.invariant-loop-entry
invariant-loop-entry l = l.points ≡ saturated (size (take l.entry-index l.entries))
