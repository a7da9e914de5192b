use Rattle.std.proofs.Common.{length}
use Rattle.aol_shape.specs.Shape.{point_at}
use Rattle.aol_assign.specs.Pairs.{member_writings}
use Rattle.aol_assign.proofs.Marking.{HasSought}
use Rattle.aol_assign.proofs.marks.found.Given as goal

abbrev pub invariant-loop-address : goal.invariant-loop-address
invariant-loop-address l = HasSought l.array (member_writings l.array l.member) (point_at l.array l.x) l.number l.walker

abbrev pub decreases-loop-address : goal.decreases-loop-address
decreases-loop-address l = length l.walker
