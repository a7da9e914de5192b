use Rattle.std.proofs.Common.{◌≡◌, drop}
use Rattle.aol_shape.specs.Shape.{point_at}
use Rattle.aol_flat.specs.Targets.{earlier_writing}
use Rattle.aol_assign.specs.Pairs.{all_writings}
use Rattle.aol_assign.proofs.marks.earliest.Given as goal

abbrev pub invariant-loop-member : goal.invariant-loop-member
invariant-loop-member l =
    earlier_writing (all_writings l.array l.members) (point_at l.array l.x) ≡ earlier_writing (all_writings l.array (drop l.member-index l.members)) (point_at l.array l.x)
