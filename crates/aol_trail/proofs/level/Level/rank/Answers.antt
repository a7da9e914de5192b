use Rattle.std.proofs.Common.{◌<◌, ◌∙◌, ap, arith}
use Rattle.aol_shape.specs.Shape.{size}
use Rattle.aol_trail.specs.Trail.{StepOf, step_rank}
use Rattle.aol_trail.proofs.Levels.{level_adds}
use Rattle.aol_trail.proofs.level.Level.rank.Goals as goal

pub total-requires-clause-place : goal.total-requires-clause-place
total-requires-clause-place c =
    let low : c.args.x < size c.self.inside.pattern.now = omega (arith, c.requires, ap (λ (s : StepOf). size s.pattern) c.self.view_is) in
    (level_adds _ _ _ _ _ _ _ _ _ c.as_slice.result.now _ c.args.x c.self.invariant c.as_slice.ensures.value low).offset_within

pub total-requires-clause-step : goal.total-requires-clause-step
total-requires-clause-step c =
    let low : c.args.x < size c.self.inside.pattern.now = omega (arith, c.requires, ap (λ (s : StepOf). size s.pattern) c.self.view_is) in
    (level_adds _ _ _ _ _ _ _ _ _ c.as_slice.result.now _ c.args.x c.self.invariant c.as_slice.ensures.value low).reference_within

pub total-requires-clause-small : goal.total-requires-clause-small
total-requires-clause-small c =
    let low : c.args.x < size c.self.inside.pattern.now = omega (arith, c.requires, ap (λ (s : StepOf). size s.pattern) c.self.view_is) in
    (level_adds _ _ _ _ _ _ _ _ _ c.as_slice.result.now _ c.args.x c.self.invariant c.as_slice.ensures.value low).small

pub total-requires-clause-sum : goal.total-requires-clause-sum
total-requires-clause-sum c =
    let low : c.args.x < size c.self.inside.pattern.now = omega (arith, c.requires, ap (λ (s : StepOf). size s.pattern) c.self.view_is) in
    (level_adds _ _ _ _ _ _ _ _ _ c.as_slice.result.now _ c.args.x c.self.invariant c.as_slice.ensures.value low).low

pub returns : goal.returns
returns c =
    let low : c.args.x < size c.self.inside.pattern.now = omega (arith, c.requires, ap (λ (s : StepOf). size s.pattern) c.self.view_is) in
    c.total.ensures
    ∙ ((level_adds _ _ _ _ _ _ _ _ _ c.as_slice.result.now _ c.args.x c.self.invariant c.as_slice.ensures.value low).is
    ∙ ap (λ (s : StepOf). step_rank s c.args.x) c.self.view_is)
