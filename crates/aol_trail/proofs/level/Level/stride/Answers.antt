use Rattle.std.proofs.Common.{sum, ◌∙◌, ap}
use Rattle.aol_trail.specs.Further.{stride_of}
use Rattle.aol_trail.specs.Trail.{StepOf}
use Rattle.aol_trail.proofs.Stretches.{stride_small}
use Rattle.aol_trail.proofs.level.Level.stride.Goals as goal

pub sum_of-requires : goal.sum_of-requires
sum_of-requires c = stride_small _ _ _ _ _ _ _ _ _ _ c.self.invariant

pub returns : goal.returns
returns c = c.sum_of.ensures ∙ (ap sum c.self.invariant.step_is ∙ ap (λ (s : StepOf). stride_of s) c.self.view_is)
