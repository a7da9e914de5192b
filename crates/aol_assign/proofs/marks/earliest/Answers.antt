use Rattle.std.proofs.Common.{arith}
use Rattle.aol_shape.specs.Shape.{point_at}
use Rattle.aol_assign.specs.Pairs.{FitsIn}
use Rattle.aol_assign.proofs.Members.{at_index, at_place, goes_past, stops_here, pairs_counted}
use Rattle.aol_assign.proofs.marks.earliest.Goals as goal

pub found-requires-clause-fits : goal.found-requires-clause-fits
found-requires-clause-fits c = at_index (FitsIn c.args.array.now) c.args.members.now c.loop-member.member-index c.member-item.result c.requires.fits (omega arith) c.member-item.is

pub writer-requires : goal.writer-requires
writer-requires c =
    omega (arith, c.in-Some.ensures.0, pairs_counted c.args.array.now c.member-item.result)

pub returns-in-Some : goal.returns-in-Some
returns-in-Some c =
    let array = c.args.array.now in
    let b = c.member-item.result in
    stops_here array c.args.members.now c.loop-member.member-index b (at_place c.args.members.now c.loop-member.member-index b (omega arith) c.member-item.is)
    (point_at array c.args.x) c.loop-member.invariant
    (at_index (FitsIn array) c.args.members.now c.loop-member.member-index b c.requires.fits (omega arith) c.member-item.is)
    c.in-Some.number c.in-Some.ensures c.writer.result c.writer.ensures

pub loop-member-preserved : goal.loop-member-preserved
loop-member-preserved c =
    let array = c.args.array.now in
    let b = c.member-item.result in
    goes_past array c.args.members.now c.loop-member.member-index b (at_place c.args.members.now c.loop-member.member-index b (omega arith) c.member-item.is)
    (point_at array c.args.x) c.loop-member.invariant c.in_default.ensures
