use Rattle.std.proofs.Common.{◌≡◌, take, drop}
use Rattle.aol_allocate.specs.Placement.{first_cause, first_refused}
use Rattle.aol_allocate.specs.Tables.{IsTable}
use Rattle.aol_allocate.proofs.table.place_entries.Given as goal

abbrev pub invariant-loop-number : goal.invariant-loop-number
invariant-loop-number l = record {
  table : IsTable l.from.flat.now.model l.from.workers (take l.number l.entries) l.rows;
  before : first_cause l.from.flat.now.model l.entries ≡ first_refused l.from.flat.now.model (take l.number l.entries) (drop l.number l.entries);
}
