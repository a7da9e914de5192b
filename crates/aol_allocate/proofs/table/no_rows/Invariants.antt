use Rattle.std.proofs.Common.{◌≡◌, replicate, None}
use Rattle.aol_allocate.proofs.table.no_rows.Given as goal

abbrev pub invariant-loop : goal.invariant-loop
invariant-loop l = l.rows ≡ replicate l.counter None
