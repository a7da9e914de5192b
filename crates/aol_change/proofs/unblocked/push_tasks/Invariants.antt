use Rattle.std.proofs.Common.{◌≡◌, ◌+◌, ◌*◌, ◌++◌, flat_map}
use Rattle.aol_shape.specs.Lists.{numbers_below}
use Rattle.aol_shape.specs.Shape.{size}
use Rattle.aol_change.specs.Unblocked.{numbers_in_blocks}
use Rattle.aol_change.proofs.unblocked.push_tasks.Given as goal

abbrev pub invariant-loop-number : goal.invariant-loop-number
invariant-loop-number l =
    l.into.items
    ≡ l.initial.into.items
    ++ flat_map (λ k. numbers_in_blocks l.by.space.now l.by.outer.now l.by.block.now (l.first + k * (size l.by.space.now * l.each)) l.each) (numbers_below l.number)
