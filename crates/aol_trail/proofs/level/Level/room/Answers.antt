use Rattle.std.proofs.Common.{◌≡◌, ◌<◌, ◌+◌, ◌*◌, ◌^◌, length, ap, subst, arith}
use Rattle.aol_shape.specs.Shape.{size, point_at}
use Rattle.aol_trail.specs.Further.{further, step_further, stride_of}
use Rattle.aol_trail.specs.Trail.{StepOf, step_rank}
use Rattle.aol_trail.proofs.Levels.{level_adds, address_small}
use Rattle.aol_trail.proofs.Stretches.{level_room}
use Rattle.aol_trail.proofs.level.Level.room.Goals as goal

pub room-requires-clause-offset : goal.room-requires-clause-offset
room-requires-clause-offset c =
    let low : c.args.x < size c.self.inside.pattern.now = omega (arith, c.requires.element, ap (λ (s : StepOf). size s.pattern) c.self.view_is) in
    (level_adds _ _ _ _ _ _ _ _ _ c.as_slice.result.now _ c.args.x c.self.invariant c.as_slice.ensures.value low).offset_within

pub room-requires-clause-place : goal.room-requires-clause-place
room-requires-clause-place c =
    let low : c.args.x < size c.self.inside.pattern.now = omega (arith, c.requires.element, ap (λ (s : StepOf). size s.pattern) c.self.view_is) in
    (level_adds _ _ _ _ _ _ _ _ _ c.as_slice.result.now _ c.args.x c.self.invariant c.as_slice.ensures.value low).reference_within

pub room-requires-clause-small : goal.room-requires-clause-small
room-requires-clause-small c =
    let low : c.args.x < size c.self.inside.pattern.now = omega (arith, c.requires.element, ap (λ (s : StepOf). size s.pattern) c.self.view_is) in
    (level_adds _ _ _ _ _ _ _ _ _ c.as_slice.result.now _ c.args.x c.self.invariant c.as_slice.ensures.value low).small

pub returns-clause-even : goal.returns-clause-even
returns-clause-even c = λ i le.
    let low : c.args.x < size c.self.inside.pattern.now = omega (arith, c.requires.element, ap (λ (s : StepOf). size s.pattern) c.self.view_is) in
    let some : 0 < length c.self.inside.space.now = omega (arith, c.requires.some, ap (λ (s : StepOf). length s.space) c.self.view_is) in
    subst (λ (s : StepOf). step_rank (step_further i s) c.args.x ≡ step_rank s c.args.x + i * stride_of s) c.self.view_is
    (level_room _ _ _ _ _ _ _ _ _ _ c.self.invariant c.as_slice.result.now c.args.x c.room.result c.as_slice.ensures.value low some c.room.ensures.room i le)

pub returns-clause-small : goal.returns-clause-small
returns-clause-small c = λ i le.
    let low : c.args.x < size c.self.inside.pattern.now = omega (arith, c.requires.element, ap (λ (s : StepOf). size s.pattern) c.self.view_is) in
    let some : 0 < length c.self.inside.space.now = omega (arith, c.requires.some, ap (λ (s : StepOf). length s.space) c.self.view_is) in
    let l = c.self.inside in
    let even = level_room _ _ _ _ _ _ _ _ _ _ c.self.invariant c.as_slice.result.now c.args.x c.room.result c.as_slice.ensures.value low some c.room.ensures.room i le in
    let few = address_small l.tiler.now l.array.now l.space.now l.pattern.now (further i l.r.items) (point_at l.pattern.now c.args.x) c.self.invariant.fits c.self.invariant.array_is in
    subst (λ (s : StepOf). step_rank s c.args.x + i * stride_of s < 2 ^ 32) c.self.view_is (subst (λ n. n < 2 ^ 32) even few)
