use Rattle.std.proofs.Common.{◌*◌, ◌∷◌, [], length, ap, arith, length-append}
use Rattle.aol_shape.proofs.Steps.{AreApart, no_indices}
use Rattle.aol_trail.proofs.Trails.{ends_by}
use Rattle.aol_trail.proofs.trail.+rank_in.Goals as goal

pub returns-in_default-split_last : goal.returns-in_default-split_last
returns-in_default-split_last t c = absurd (no_indices _ _ _ _ c.in-Some.ensures.cases.0 c.in_default-split_last.ensures.cases c.requires.point)

pub rank_in-requires : goal.rank_in-requires
rank_in-requires t c =
    let apart : AreApart c.args.space.now c.args.point.now _ _ _ _ = record { shape_is = c.in-Some.ensures.cases.0; point_is = c.in-Some-split_last.ensures.cases.0; inside = c.requires.point } in
    let e = ends_by _ _ _ _ _ _ apart in
    (omega (arith, ap length c.in-Some.ensures.cases.0, length-append c.in-Some.outer.now (c.in-Some.entry.now ∷ [])), (e.before, omega (arith, e.less, c.requires.small)))

pub overflow_mul-result : goal.overflow_mul-result
overflow_mul-result t c =
    let apart : AreApart c.args.space.now c.args.point.now _ _ _ _ = record { shape_is = c.in-Some.ensures.cases.0; point_is = c.in-Some-split_last.ensures.cases.0; inside = c.requires.point } in
    let e = ends_by _ _ _ _ _ _ apart in
    omega (arith, e.is, c.requires.small, ap (λ n. n * c.in-Some.entry.now) c.rank_in.ensures)

pub overflow_add-result : goal.overflow_add-result
overflow_add-result t c =
    let apart : AreApart c.args.space.now c.args.point.now _ _ _ _ = record { shape_is = c.in-Some.ensures.cases.0; point_is = c.in-Some-split_last.ensures.cases.0; inside = c.requires.point } in
    let e = ends_by _ _ _ _ _ _ apart in
    omega (arith, e.is, c.requires.small, ap (λ n. n * c.in-Some.entry.now) c.rank_in.ensures)

pub returns : goal.returns
returns t c =
    let apart : AreApart c.args.space.now c.args.point.now _ _ _ _ = record { shape_is = c.in-Some.ensures.cases.0; point_is = c.in-Some-split_last.ensures.cases.0; inside = c.requires.point } in
    let e = ends_by _ _ _ _ _ _ apart in
    omega (arith, e.is, ap (λ n. n * c.in-Some.entry.now) c.rank_in.ensures)
