use Rattle.std.proofs.Common.{◌+◌, ◌*◌, Ok}
use Rattle.aol_flat.proofs.Placing.{PlacesFront}
use Rattle.aol_flat.proofs.place.+place.Given as goal

abbrev pub decreases-place : goal.decreases-place
decreases-place l = 3 * l.number + 2

abbrev pub decreases-place_parts : goal.decreases-place_parts
decreases-place_parts l = 3 * l.above + 1

abbrev pub decreases-place_named : goal.decreases-place_named
decreases-place_named l = 3 * l.above

abbrev pub invariant-place_parts-loop-number : goal.invariant-place_parts-loop-number
invariant-place_parts-loop-number l = PlacesFront l.from.model.now l.task l.fn.way l.number l.initial.table l.table (Ok tt)
