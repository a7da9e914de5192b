use Rattle.std.proofs.Common.{refl}
use Rattle.aol_change.specs.Unblocked.{numbers_in_block}
use Rattle.aol_change.proofs.EqualParts.{parts_more}
use Rattle.aol_change.proofs.unblocked.push_blocks.Goals as goal

pub loop-number-preserved : goal.loop-number-preserved
loop-number-preserved c =
    parts_more (numbers_in_block c.args.by.space.now c.args.by.outer.now c.args.by.block.now c.args.first c.args.each) c.args.into.now.items c.loop-number.into.items c.push_block.new.into.items
    (numbers_in_block c.args.by.space.now c.args.by.outer.now c.args.by.block.now c.args.first c.args.each c.loop-number.number) c.loop-number.number c.loop-number.invariant refl c.in_ok-push_block.ensures
