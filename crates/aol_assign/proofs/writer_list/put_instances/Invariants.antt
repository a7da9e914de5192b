use Rattle.std.proofs.Common.{◌≡◌, ◌+◌, length}
use Rattle.aol_flat.specs.LeafCursor.{writes_each}
use Rattle.aol_assign.specs.WriterList.{HasWriters}
use Rattle.aol_assign.proofs.writer_list.put_instances.Given as goal

abbrev pub invariant-loop-number : goal.invariant-loop-number
invariant-loop-number l = record {
  cursor : l.writes.flat ≡ l.flat;
  at : l.writes.leaf ≡ l.leaf;
  many : length l.cells ≡ writes_each l.writes.flat.model l.writes.leaf;
  has : HasWriters l.flat (l.row.base + l.number) l.list;
}
