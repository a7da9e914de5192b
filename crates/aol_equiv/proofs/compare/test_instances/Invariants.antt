use Rattle.std.proofs.Common.{◌≡◌, ◌+◌, length}
use Rattle.aol_flat.specs.LeafCursor.{reads_each}
use Rattle.aol_equiv.specs.Compared.{AreKeptBefore}
use Rattle.aol_equiv.proofs.compare.test_instances.Given as goal

abbrev pub invariant-loop-number : goal.invariant-loop-number
invariant-loop-number l = record {
  cursor : l.reads.flat ≡ l.sides.new.now;
  at : l.reads.leaf ≡ l.leaf;
  old_cursor : l.before.flat ≡ l.sides.old.now;
  old_leaf : l.before.leaf ≡ l.at;
  many : length l.taken ≡ reads_each l.reads.flat.model l.reads.leaf;
  as_many : length l.earlier ≡ length l.taken;
  kept : AreKeptBefore l.sides (l.row.base + l.number);
}
