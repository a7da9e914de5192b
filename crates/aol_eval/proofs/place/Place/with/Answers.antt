use Rattle.std.proofs.Common.{arith, ◌<◌, nat_abs}
use Rattle.std.proofs.lemmas.Int.{ints}
use Rattle.aol_eval.proofs.Places.{rank_small}
use Rattle.aol_eval.proofs.place.Place.with.Goals as goal

pub overflow_mul-result : goal.overflow_mul-result
overflow_mul-result c =
    let below : nat_abs c.args.index < c.in-Some.entry.now = omega (arith, ints) in
    let small = rank_small c.in-Inside.rank c.in-Some.entry.now (nat_abs c.args.index) c.args.self c.in-Inside.entries c.in-Some.rest.now c.requires c.in-Inside.is c.in-Some.ensures.cases.0 below in
    rw c.from-in-Some.ensures (omega (arith, small))

pub overflow_add-result : goal.overflow_add-result
overflow_add-result c =
    let below : nat_abs c.args.index < c.in-Some.entry.now = omega (arith, ints) in
    let small = rank_small c.in-Inside.rank c.in-Some.entry.now (nat_abs c.args.index) c.args.self c.in-Inside.entries c.in-Some.rest.now c.requires c.in-Inside.is c.in-Some.ensures.cases.0 below in
    rw c.from-in-Some.ensures (omega (arith, ints, small))
