use Rattle.aol_equiv.proofs.Olds.{leaf_added}
use Rattle.aol_equiv.proofs.before.push_leaf.Goals as goal

pub loop-number-preserved : goal.loop-number-preserved
loop-number-preserved c = leaf_added c.args.list.now.items c.loop-number.list.items c.push.new.self.items c.loop-number._number c.args.leaf c.loop-number.invariant c.in_ok-push.ensures.items
