use Rattle.std.proofs.Common.{◌≡◌, ◌++◌, drop}
use Rattle.aol_change.proofs.tasks.push_copies.Given as goal

abbrev pub invariant-loop-port : goal.invariant-loop-port
invariant-loop-port l = l.initial.copies ++ l.ports ≡ l.copies ++ drop l.port-index l.ports
