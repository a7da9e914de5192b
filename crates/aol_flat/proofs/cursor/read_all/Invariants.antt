use Rattle.std.proofs.Common.{take}
use Rattle.aol_flat.specs.Route.{AreTrailReads}
use Rattle.aol_flat.proofs.cursor.read_all.Given as goal

abbrev pub invariant-loop-x : goal.invariant-loop-x
invariant-loop-x l = AreTrailReads l.trail (take l.x l.into)
