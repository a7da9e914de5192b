use Rattle.std.proofs.Common.{length}
use Rattle.aol_assign.specs.Pairs.{member_writings}
use Rattle.aol_assign.proofs.Marking.{HasMarked}
use Rattle.aol_assign.proofs.marks.mark.Given as goal

abbrev pub invariant-loop-address : goal.invariant-loop-address
invariant-loop-address l = HasMarked l.array (member_writings l.array l.member) l.initial.marks l.number l.walker l.marks

abbrev pub decreases-loop-address : goal.decreases-loop-address
decreases-loop-address l = length l.walker
