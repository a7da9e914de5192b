use Rattle.std.proofs.Common.{map, ◌++◌, ◌∙◌, ap, arith}
use Rattle.aol_shape.specs.Lists.{numbers_below}
use Rattle.aol_assign.proofs.ReadingPlaces.{pair}
use Rattle.aol_equiv.proofs.Spotting.{out_added}
use Rattle.aol_equiv.proofs.places.spots_made.Goals as goal

pub loop-number-preserved : goal.loop-number-preserved
loop-number-preserved c =
    out_added c.args.outs.now c.loop-number.number c.index-outs-number.result (omega arith) c.index-outs-number.is c.loop-number.spots.items c.push_port.new.spots.items c.loop-number.invariant
    (c.in_ok-push_port.ensures ∙ ap (λ n. c.loop-number.spots.items ++ map (pair c.loop-number.number) (numbers_below n)) c.size.ensures.points)
