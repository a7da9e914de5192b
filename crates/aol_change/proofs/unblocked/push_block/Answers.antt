use Rattle.std.proofs.Common.{◌+◌, ◌*◌, ap}
use Rattle.aol_shape.specs.Lists.{numbers_from}
use Rattle.aol_change.specs.Unblocked.{unblocked_rank}
use Rattle.aol_change.proofs.EqualParts.{parts_more}
use Rattle.aol_change.proofs.unblocked.push_block.Goals as goal

pub loop-position-preserved : goal.loop-position-preserved
loop-position-preserved c =
    parts_more (λ position. numbers_from (c.args.first + unblocked_rank c.args.by.space.now c.args.by.outer.now c.args.by.block.now c.args.number position * c.args.each) c.args.each)
    c.args.into.now.items c.loop-position.into.items c.push_numbers.new.into.items (numbers_from (c.args.first + c.unblocked_rank-repetition.result * c.args.each) c.args.each)
    c.loop-position.position c.loop-position.invariant (ap (λ r. numbers_from (c.args.first + r * c.args.each) c.args.each) c.unblocked_rank-repetition.ensures.rank)
    c.in_ok-push_numbers.ensures
