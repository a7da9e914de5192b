use Rattle.std.proofs.Common.{◌≡◌, ◌+◌, length}
use Rattle.aol_flat.specs.LeafCursor.{reads_each}
use Rattle.aol_assign.specs.ReadsSoFar.{AreGivenBefore}
use Rattle.aol_assign.proofs.reads.test_instances.Given as goal

abbrev pub invariant-loop-number : goal.invariant-loop-number
invariant-loop-number l = record {
  cursor : l.reads.flat ≡ l.flat;
  at : l.reads.leaf ≡ l.leaf;
  many : length l.taken ≡ reads_each l.reads.flat.model l.reads.leaf;
  given : AreGivenBefore l.flat.model (l.row.base + l.number);
}
