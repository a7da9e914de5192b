use Rattle.std.proofs.Common.{◌+◌, ◌*◌, ap}
use Rattle.aol_shape.specs.Shape.{size}
use Rattle.aol_change.specs.Unblocked.{numbers_in_blocks}
use Rattle.aol_change.proofs.EqualParts.{parts_more}
use Rattle.aol_change.proofs.unblocked.push_tasks.Goals as goal

pub loop-number-preserved : goal.loop-number-preserved
loop-number-preserved c =
    parts_more (λ k. numbers_in_blocks c.args.by.space.now c.args.by.outer.now c.args.by.block.now (c.args.first + k * (size c.args.by.space.now * c.args.each)) c.args.each)
    c.args.into.now.items c.loop-number.into.items c.push_blocks.new.into.items
    (numbers_in_blocks c.args.by.space.now c.args.by.outer.now c.args.by.block.now (c.args.first + c.loop-number.number * (c.size.result * c.args.each)) c.args.each)
    c.loop-number.number c.loop-number.invariant
    (ap (λ n. numbers_in_blocks c.args.by.space.now c.args.by.outer.now c.args.by.block.now (c.args.first + c.loop-number.number * (n * c.args.each)) c.args.each) c.size.ensures.points)
    c.in_ok-push_blocks.ensures
