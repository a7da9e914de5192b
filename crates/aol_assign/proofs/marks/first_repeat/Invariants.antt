use Rattle.std.proofs.Common.{◌≡◌, [], drop, take, length}
use Rattle.aol_shape.specs.Shape.{size}
use Rattle.aol_flat.specs.Targets.{first_repeat}
use Rattle.aol_assign.specs.Pairs.{all_writings}
use Rattle.aol_assign.specs.Marks.{AreMarks}
use Rattle.aol_assign.proofs.marks.first_repeat.Given as goal

abbrev pub invariant-loop-member : goal.invariant-loop-member
invariant-loop-member l = record {
  room : length l.marks ≡ size l.array;
  marked : AreMarks l.array (all_writings l.array (take l.member-index l.members)) l.marks;
  none : first_repeat [] (all_writings l.array l.members) ≡ first_repeat (all_writings l.array (take l.member-index l.members)) (all_writings l.array (drop l.member-index l.members));
}
