use Rattle.std.proofs.Common.{take}
use Rattle.aol_flat.specs.Route.{AreTrailCells}
use Rattle.aol_flat.proofs.cursor.write_all.Given as goal

abbrev pub invariant-loop-x : goal.invariant-loop-x
invariant-loop-x l = AreTrailCells l.trail (take l.x l.into)
