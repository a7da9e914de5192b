use Rattle.aol_trail.specs.Level.{AreOffsets}
use Rattle.aol_trail.proofs.level.offsets_of.Given as goal

abbrev pub invariant-loop-x : goal.invariant-loop-x
invariant-loop-x l = AreOffsets l.columns l.array l.pattern l.x l.offsets.items
