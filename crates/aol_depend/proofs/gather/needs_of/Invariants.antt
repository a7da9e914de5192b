use Rattle.aol_flat.specs.LeafCursor.{first_on}
use Rattle.aol_depend.specs.Gather.{AreGathered}
use Rattle.aol_depend.proofs.gather.needs_of.Given as goal

abbrev pub invariant-loop-leaf : goal.invariant-loop-leaf
invariant-loop-leaf l = AreGathered l.flat l.writer_of (first_on l.flat.model l.leaf) l.rows.starts.items l.rows.list.items
