use Rattle.aol_flat.specs.LeafCursor.{first_on}
use Rattle.aol_depend.specs.InOrder.{AreRankedBefore}
use Rattle.aol_depend.proofs.in_order.levels_in_order.Given as goal

abbrev pub invariant-loop-leaf : goal.invariant-loop-leaf
invariant-loop-leaf l = AreRankedBefore l.flat l.writer_of (first_on l.flat.model l.leaf) l.levels.items
