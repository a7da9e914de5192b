use Rattle.aol_transform.specs.SoFar.{IsSoFar}
use Rattle.aol_transform.proofs.steps.transform.Given as goal

abbrev pub invariant-loop-number : goal.invariant-loop-number
invariant-loop-number l = IsSoFar l.fn.first l.steps l.number l.now
