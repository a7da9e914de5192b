use Rattle.std.proofs.Common.{◌<◌, sym, arith, subst}
use Rattle.std.specs.List.{AllByRecursion}
use Rattle.aol_shape.specs.Shape.{size}
use Rattle.aol_shape.proofs.Points.{point_at-is}
use Rattle.aol_tiler.specs.Makers.{IsIndex}
use Rattle.aol_trail.proofs.Levels.{small_point, offsets_more}
use Rattle.aol_trail.proofs.level.offsets_of.Goals as goal

pub push_offset-requires-clause-point : goal.push_offset-requires-clause-point
push_offset-requires-clause-point c =
    let low : c.loop-x.x < size c.args.pattern.now = omega (arith, c.loop-x-test.true, c.size-x-end.ensures.points) in
    subst (AllByRecursion IsIndex) (sym c.unrank_into.ensures) (small_point c.args.pattern.now _ c.as_slice.ensures.limits.entry (point_at-is c.args.pattern.now c.loop-x.x low))

pub loop-x-preserved : goal.loop-x-preserved
loop-x-preserved c =
    offsets_more c.args.columns.now c.args.array.now c.args.pattern.now c.loop-x.offsets.items c.push_offset.new.offsets.items c.unrank_into.new.point c.loop-x.x c.requires.array.rank c.loop-x.invariant c.unrank_into.ensures
    c.in_ok-push_offset.ensures
