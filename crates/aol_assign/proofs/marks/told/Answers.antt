use Rattle.std.proofs.Common.{sym, ◌∙◌, ap, arith}
use Rattle.aol_shape.specs.Shape.{point_at}
use Rattle.aol_flat.specs.Targets.{earlier_writing}
use Rattle.aol_assign.specs.Pairs.{all_writings}
use Rattle.aol_assign.proofs.Members.{pairs_counted, pair_written, told_some}
use Rattle.aol_assign.proofs.marks.told.Goals as goal

pub writer-requires : goal.writer-requires
writer-requires c = omega (arith, c.requires.pair, pairs_counted c.args.array.now c.args.member.now)

pub returns : goal.returns
returns c w at =
    let array = c.args.array.now in
    told_some (earlier_writing (all_writings array c.args.members.now) (point_at array c.args.hit.address)) c.in_ok-first.first c.writer.result w.0 c.point_of.result (point_at array c.args.hit.address)
    (sym c.in_ok-first.was ∙ c.earliest.ensures)
    (pair_written array c.args.member.now c.requires.own c.args.hit.number c.requires.pair c.writer.result c.writer.ensures w at)
    (c.point_of.ensures ∙ ap (point_at array) c.from.ensures)
