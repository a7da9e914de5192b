use Rattle.std.proofs.Common.{◌+◌, ◌-◌, ◌*◌, Ok}
use Rattle.aol_flat.proofs.Visiting.{GoesOverFront}
use Rattle.aol_flat.proofs.visit.+visit.Given as goal

abbrev pub decreases-visit : goal.decreases-visit
decreases-visit l = 3 * (33 - l.spot.now.depth) + 2

abbrev pub decreases-visit_parts : goal.decreases-visit_parts
decreases-visit_parts l = 3 * (33 - l.spot.now.depth) + 1

abbrev pub decreases-visit_below : goal.decreases-visit_below
decreases-visit_below l = 3 * (33 - l.spot.now.depth)

abbrev pub invariant-visit_parts-loop-part : goal.invariant-visit_parts-loop-part
invariant-visit_parts-loop-part l = GoesOverFront l.from.model.now l.task l.spot l.part-index l.initial.walk l.walk (Ok tt)
