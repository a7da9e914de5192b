use Rattle.std.proofs.Common.{◌≡◌, ℕ, ◌<◌, get_or}
use Rattle.aol_shape.specs.Vectors.{wrapped_point}
use Rattle.aol_link.specs.Links.{stepped_back}
use Rattle.aol_link.proofs.steps.step_back.Given as goal

abbrev pub invariant-loop-k : goal.invariant-loop-k
invariant-loop-k l = (m : ℕ) → m < l.k → get_or l.found m 0 ≡ get_or (wrapped_point (stepped_back l.r l.distance) l.space) m 0
