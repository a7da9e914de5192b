use Rattle.std.proofs.Common.{◌≡◌, ◌+◌, ◌*◌, ◌++◌, flat_map}
use Rattle.aol_shape.specs.Lists.{numbers_from, numbers_below}
use Rattle.aol_change.specs.Unblocked.{unblocked_rank}
use Rattle.aol_change.proofs.unblocked.push_block.Given as goal

abbrev pub invariant-loop-position : goal.invariant-loop-position
invariant-loop-position l =
    l.into.items
    ≡ l.initial.into.items
    ++ flat_map (λ position. numbers_from (l.first + unblocked_rank l.by.space.now l.by.outer.now l.by.block.now l.number position * l.each) l.each) (numbers_below l.position)
