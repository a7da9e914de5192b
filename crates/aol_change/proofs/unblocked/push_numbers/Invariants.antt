use Rattle.std.proofs.Common.{◌≡◌, ◌++◌}
use Rattle.aol_shape.specs.Lists.{numbers_from}
use Rattle.aol_change.proofs.unblocked.push_numbers.Given as goal

abbrev pub invariant-loop-after : goal.invariant-loop-after
invariant-loop-after l = l.into.items ≡ l.initial.into.items ++ numbers_from l.first l.after
