use Rattle.std.proofs.Common.{◌≡◌, ◌≢◌, ◌<◌, length, get_or, arith, below_more, get_or-set_other, get_or-set_same}
use Rattle.std.proofs.lemmas.Grind.{same_number_lists}
use Rattle.aol_shape.specs.Vectors.{wrapped_point}
use Rattle.aol_link.specs.Links.{stepped_back}
use Rattle.aol_link.proofs.Outside.{to_z_back, wrapped_at, length-wrapped_back}
use Rattle.aol_link.proofs.steps.step_back.Goals as goal

pub loop-k-preserved : goal.loop-k-preserved
loop-k-preserved c =
    let here : c.stepped_within.result ≡ get_or (wrapped_point (stepped_back c.args.r.now c.args.distance.now) c.args.space.now) c.loop-k.k 0 = grind (arith, to_z_back, wrapped_at) in
    below_more _ _
    (λ m h. let ne : m ≢ c.loop-k.k = omega arith in rw get_or-set_other (c.loop-k.invariant m h))
    (let lt : c.loop-k.k < length c.loop-k.found = omega (arith, c.loop-k.auto.found, c.requires.room, c.loop-k-test.true) in rw get_or-set_same here)

pub returns : goal.returns
returns c =
    same_number_lists _ _
    (omega (arith, c.loop-k.auto.found, c.requires.room, length-wrapped_back c.args.space.now c.args.r.now c.args.distance.now c.requires.indices c.requires.steps))
    (λ k h. c.loop-k.invariant k (omega (arith, h, c.loop-k-test.false, c.loop-k.auto.found, c.requires.room)))
