use Rattle.aol_change.proofs.EqualParts.{numbers_more}
use Rattle.aol_change.proofs.unblocked.push_numbers.Goals as goal

pub loop-after-preserved : goal.loop-after-preserved
loop-after-preserved c =
    numbers_more c.args.into.now.items c.loop-after.into.items c.push.new.self.items c.args.first c.loop-after.after c.loop-after.invariant c.in_ok-push.ensures.items
