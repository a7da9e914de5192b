use Rattle.std.proofs.Common.{◌≡◌, ◌+◌, length}
use Rattle.aol_flat.specs.LeafCursor.{writes_each}
use Rattle.aol_equiv.specs.Table.{HasLeads}
use Rattle.aol_equiv.proofs.made.lead_runs.Given as goal

abbrev pub invariant-loop-number : goal.invariant-loop-number
invariant-loop-number l = record {
  cursor : l.writes.flat ≡ l.flat;
  at : l.writes.leaf ≡ l.leaf;
  many : length l.cells ≡ writes_each l.writes.flat.model l.writes.leaf;
  has : HasLeads l.flat (l.row.base + l.number) l.leads;
}
