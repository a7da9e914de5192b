use Rattle.std.proofs.Common.{length, arith}
use Rattle.aol_shape.proofs.Steps.{AreApart}
use Rattle.aol_flat.proofs.Lefts.{is_left}
use Rattle.aol_flat.proofs.points.left_in.Goals as goal

pub overflow_sub-result : goal.overflow_sub-result
overflow_sub-result c =
    let apart : AreApart c.args.entries.now c.args.point.now _ _ _ _ = record { shape_is = c.in-Some.ensures.cases.0; point_is = c.in-Some-split_last.ensures.cases.0; inside = c.requires } in
    omega (arith, (is_left apart).low)

pub returns-clause-some : goal.returns-clause-some
returns-clause-some c =
    let apart : AreApart c.args.entries.now c.args.point.now _ _ _ _ = record { shape_is = c.in-Some.ensures.cases.0; point_is = c.in-Some-split_last.ensures.cases.0; inside = c.requires } in
    omega (arith, (is_left apart).low)

pub returns-clause-inside : goal.returns-clause-inside
returns-clause-inside c = λ i less.
    let apart : AreApart c.args.entries.now c.args.point.now _ _ _ _ = record { shape_is = c.in-Some.ensures.cases.0; point_is = c.in-Some-split_last.ensures.cases.0; inside = c.requires } in
    (is_left apart).inside i (omega (arith, less))

pub returns-clause-rank : goal.returns-clause-rank
returns-clause-rank c = λ i less.
    let apart : AreApart c.args.entries.now c.args.point.now _ _ _ _ = record { shape_is = c.in-Some.ensures.cases.0; point_is = c.in-Some-split_last.ensures.cases.0; inside = c.requires } in
    (is_left apart).rank_is i
