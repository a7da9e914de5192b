use Rattle.std.proofs.Common.{length}
use Rattle.aol_allocate.proofs.Marking.{IsMarking}
use Rattle.aol_allocate.proofs.marks.mark_all.Given as goal

abbrev pub invariant-loop-point : goal.invariant-loop-point
invariant-loop-point l = IsMarking l.entry l.workers l.space l.marks l.from l.to

abbrev pub decreases-loop-point : goal.decreases-loop-point
decreases-loop-point l = length l.from
