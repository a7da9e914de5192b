use Rattle.std.proofs.Common.{Ok}
use Rattle.aol_flat.proofs.Visiting.{GoesOverFrontCopies}
use Rattle.aol_flat.proofs.visit.push_copies.Given as goal

abbrev pub invariant-loop-number : goal.invariant-loop-number
invariant-loop-number l = GoesOverFrontCopies l.reshapes l.spot l.number l.initial.walk l.walk (Ok tt)
