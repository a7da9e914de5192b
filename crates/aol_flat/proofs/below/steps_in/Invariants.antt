use Rattle.aol_flat.proofs.Stepping.{AreStepsFront}
use Rattle.aol_flat.proofs.below.steps_in.Given as goal

abbrev pub invariant-loop-part : goal.invariant-loop-part
invariant-loop-part l = AreStepsFront l.from.model.now l.parts l.counts l.part-index l.steps.own l.steps.count
