use Rattle.aol_flat.proofs.Inside.{point_length}
use Rattle.aol_flat.proofs.Unranking.{is_point, moved_next}
use Rattle.aol_flat.proofs.points.go_on.Goals as goal

pub advance-moved-requires : goal.advance-moved-requires
advance-moved-requires c = is_point c.args.entries.now c.args.point.now c.args.count c.args.from c.requires.count c.requires.from c.requires.at

pub unrank-requires-clause-same : goal.unrank-requires-clause-same
unrank-requires-clause-same c =
    point_length c.args.entries.now c.args.point.now (is_point c.args.entries.now c.args.point.now c.args.count c.args.from c.requires.count c.requires.from c.requires.at)

pub returns-then-to-from-2 : goal.returns-then-to-from-2
returns-then-to-from-2 c =
    moved_next c.args.entries.now c.args.point.now c.advance-moved.new.point c.args.count c.args.from c.args.to c.advance-moved.result
    c.requires.count c.requires.from c.requires.at c.if-to-from-2.true c.requires.to c.advance-moved.ensures.more c.advance-moved.ensures.next
