use Rattle.std.proofs.Common.{◌≡◌}
use Rattle.aol_assign.specs.Holes.{cells_from}
use Rattle.aol_equiv.proofs.compare.cells_after.Given as goal

abbrev pub invariant-loop-number : goal.invariant-loop-number
invariant-loop-number l = l.reads.items ≡ cells_from l.first l.number
