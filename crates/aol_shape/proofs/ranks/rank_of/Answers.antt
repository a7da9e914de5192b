use Rattle.std.proofs.Common.{ap, arith}
use Rattle.aol_shape.specs.Shape.{rank}
use Rattle.aol_shape.proofs.Points.{rank-lt-size}
use Rattle.aol_shape.proofs.ranks.rank_of.Goals as goal

pub overflow_cast-result : goal.overflow_cast-result
overflow_cast-result c = omega (arith, rank-lt-size c.args.shape.now c.args.point.now c.requires, c.as_slice.ensures.limits.points, ap (λ e. rank e c.args.point.now) c.as_slice.ensures.entries)

pub returns-clause-within : goal.returns-clause-within
returns-clause-within c = omega (arith, rank-lt-size c.args.shape.now c.args.point.now c.requires, ap (λ e. rank e c.args.point.now) c.as_slice.ensures.entries)
