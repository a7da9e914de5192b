use Rattle.std.proofs.Common.{◌≡◌, ◌+◌, length}
use Rattle.aol_flat.specs.LeafCursor.{first_on, reads_each}
use Rattle.aol_depend.specs.InOrder.{AreRankedBefore}
use Rattle.aol_depend.proofs.in_order.rank_leaf.Given as goal

abbrev pub invariant-loop-number : goal.invariant-loop-number
invariant-loop-number l = record {
  cursor : l.cursor ≡ record { flat = l.flat; leaf = l.leaf };
  many : length l.reads ≡ reads_each l.flat.model l.leaf;
  ranked : AreRankedBefore l.flat l.writer_of (first_on l.flat.model l.leaf + l.number) l.levels.items;
}
