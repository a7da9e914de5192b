use Rattle.std.proofs.Common.{length, [], ◌∷◌, ap, arith}
use Rattle.std.proofs.lemmas.List.{length-append}
use Rattle.aol_shape.proofs.Steps.{AreApart, point_before, moved-last, moved-outer, no_indices}
use Rattle.aol_flat.proofs.points.+advance.Goals as goal

pub returns-then-index-greatest : goal.returns-then-index-greatest
returns-then-index-greatest t c =
    let apart : AreApart c.args.entries.now c.args.point.now _ _ _ _ = record { shape_is = c.in-Some.ensures.cases.0; point_is = c.in-Some-split_last_mut.ensures.cases.0; inside = c.requires } in
    let moved = moved-last apart (omega arith) in
    record { more = moved.more; next = moved.next; first = moved.first }

pub advance-requires : goal.advance-requires
advance-requires t c =
    let apart : AreApart c.args.entries.now c.args.point.now _ _ _ _ = record { shape_is = c.in-Some.ensures.cases.0; point_is = c.in-Some-split_last_mut.ensures.cases.0; inside = c.requires } in
    (omega (arith, ap length c.in-Some.ensures.cases.0, length-append c.in-Some.outer.now (c.in-Some.entry.now ∷ [])), point_before apart)

pub returns : goal.returns
returns t c =
    let apart : AreApart c.args.entries.now c.args.point.now _ _ _ _ = record { shape_is = c.in-Some.ensures.cases.0; point_is = c.in-Some-split_last_mut.ensures.cases.0; inside = c.requires } in
    let moved = moved-outer apart (omega arith) c.advance.result c.advance.new.point c.advance.ensures.more c.advance.ensures.next c.advance.ensures.first in
    record { more = moved.more; next = moved.next; first = moved.first }

pub returns-in_default-split_last_mut : goal.returns-in_default-split_last_mut
returns-in_default-split_last_mut t c = absurd (no_indices _ _ _ _ c.in-Some.ensures.cases.0 c.in_default-split_last_mut.ensures.cases c.requires)
