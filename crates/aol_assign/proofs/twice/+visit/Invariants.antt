use Rattle.std.proofs.Common.{◌≡◌, ◌+◌, ◌*◌, Ok, length}
use Rattle.aol_assign.proofs.TwiceWalk.{GoesOverFront}
use Rattle.aol_assign.proofs.twice.+visit.Given as goal

abbrev pub decreases-visit : goal.decreases-visit
decreases-visit l = 3 * l.number + 2

abbrev pub decreases-visit_parts : goal.decreases-visit_parts
decreases-visit_parts l = 3 * l.number + 1

abbrev pub decreases-visit_below : goal.decreases-visit_below
decreases-visit_below l = 3 * l.above

abbrev pub invariant-visit_parts-loop-part : goal.invariant-visit_parts-loop-part
invariant-visit_parts-loop-part l = record {
  room : length l.tested ≡ length l.from.model.now.tasks;
  front : GoesOverFront l.from.model.now l.task l.steps l.part-index l.initial.tested l.tested (Ok tt);
}
