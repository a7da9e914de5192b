use Rattle.aol_depend.specs.InOrder.{RanksOf}
use Rattle.aol_depend.proofs.in_order.rank_first_leaf.Given as goal

abbrev pub invariant-loop-number : goal.invariant-loop-number
invariant-loop-number l = RanksOf l.flat l.leaf l._number l.fn.levels.items l.levels.items
