use Rattle.std.specs.Option.{option_copied}
use Rattle.aol_assign.proofs.Collecting.{HasReshapes}
use Rattle.aol_assign.proofs.targets.reshapes_into.Given as goal

abbrev pub invariant-loop-number : goal.invariant-loop-number
invariant-loop-number l = HasReshapes l.task (option_copied l.part) l.number l.into.items
