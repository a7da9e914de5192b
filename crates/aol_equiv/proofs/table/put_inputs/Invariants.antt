use Rattle.std.proofs.Common.{◌≡◌, ◌++◌, map, take, drop}
use Rattle.aol_equiv.specs.Table.{given_at}
use Rattle.aol_equiv.proofs.table.put_inputs.Given as goal

abbrev pub invariant-loop-number : goal.invariant-loop-number
invariant-loop-number l = l.leads ≡ map given_at (take l.number l.spots) ++ drop l.number l.initial.leads
