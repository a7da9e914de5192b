use Rattle.std.proofs.Common.{◌*◌, arith, ap, ◌∙◌}
use Rattle.aol_shape.proofs.Steps.{AreBegun, goes_on}
use Rattle.aol_shape.proofs.ranks.+ranked.Goals as goal

pub overflow_mul-before : goal.overflow_mul-before
overflow_mul-before t c =
    let begun : AreBegun c.args.shape.now c.args.point.now _ _ _ _ = record { shape_is = c.in-Some-Some.ensures.cases.0; point_is = c.in-Some-Some.ensures'.cases.0; inside = c.requires.inside; entries = c.requires.entries } in
    omega (arith, (goes_on begun c.args.before c.requires.few).fits, ap (λ z. c.args.before * z) c.from.ensures)

pub overflow_add-before : goal.overflow_add-before
overflow_add-before t c =
    let begun : AreBegun c.args.shape.now c.args.point.now _ _ _ _ = record { shape_is = c.in-Some-Some.ensures.cases.0; point_is = c.in-Some-Some.ensures'.cases.0; inside = c.requires.inside; entries = c.requires.entries } in
    omega (arith, (goes_on begun c.args.before c.requires.few).fits, ap (λ z. c.args.before * z) c.from.ensures, c.from-in-Some-Some.ensures)

pub ranked-requires : goal.ranked-requires
ranked-requires t c =
    let begun : AreBegun c.args.shape.now c.args.point.now _ _ _ _ = record { shape_is = c.in-Some-Some.ensures.cases.0; point_is = c.in-Some-Some.ensures'.cases.0; inside = c.requires.inside; entries = c.requires.entries } in
    let on = goes_on begun c.args.before c.requires.few in
    (omega (arith, c.in-Some-Some.ensures.cases.1), (on.inside, (on.entries, rw (c.from.ensures, c.from-in-Some-Some.ensures) on.few)))

pub returns-in-Some-Some : goal.returns-in-Some-Some
returns-in-Some-Some t c =
    let begun : AreBegun c.args.shape.now c.args.point.now _ _ _ _ = record { shape_is = c.in-Some-Some.ensures.cases.0; point_is = c.in-Some-Some.ensures'.cases.0; inside = c.requires.inside; entries = c.requires.entries } in
    let on = goes_on begun c.args.before c.requires.few in
    c.ranked.ensures ∙ rw (c.from.ensures, c.from-in-Some-Some.ensures) on.moves
