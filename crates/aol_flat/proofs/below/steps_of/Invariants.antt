use Rattle.aol_flat.proofs.Stepping.{AreStepped}
use Rattle.aol_flat.proofs.below.steps_of.Given as goal

abbrev pub invariant-loop-task : goal.invariant-loop-task
invariant-loop-task l = AreStepped l.from.model.now l.task-index l.counts l.steps
