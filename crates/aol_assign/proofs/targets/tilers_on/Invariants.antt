use Rattle.aol_assign.proofs.Collecting.{HasTilers}
use Rattle.aol_assign.proofs.targets.tilers_on.Given as goal

abbrev pub invariant-loop-number : goal.invariant-loop-number
invariant-loop-number l = HasTilers l.task l.inner l.output l.number l.members.items
