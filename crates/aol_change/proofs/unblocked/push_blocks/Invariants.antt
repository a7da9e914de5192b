use Rattle.std.proofs.Common.{◌≡◌, ◌++◌, flat_map}
use Rattle.aol_shape.specs.Lists.{numbers_below}
use Rattle.aol_change.specs.Unblocked.{numbers_in_block}
use Rattle.aol_change.proofs.unblocked.push_blocks.Given as goal

abbrev pub invariant-loop-number : goal.invariant-loop-number
invariant-loop-number l = l.into.items ≡ l.initial.into.items ++ flat_map (numbers_in_block l.by.space.now l.by.outer.now l.by.block.now l.first l.each) (numbers_below l.number)
