use Rattle.std.proofs.Common.{arith}
use Rattle.aol_flat.specs.Instance.{leaves}
use Rattle.aol_change.proofs.Below.{listed_at, one_leaf_more}
use Rattle.aol_change.proofs.unblocked.old_numbers.Goals as goal

pub loop-leaf-preserved : goal.loop-leaf-preserved
loop-leaf-preserved c =
    let m = c.args.old.now.model in
    let l = listed_at (leaves m) c.loop-leaf.leaf (omega (arith, c.loop-leaf-test.true, c.leaves-leaf-end.ensures)) in
    one_leaf_more m c.args.task.now c.args.outer.now c.args.block.now _ c.loop-leaf.old_of.items c.push_leaf.new.into.items c.loop-leaf.leaf l.0 l.1 c.loop-leaf.invariant (c.in_ok-push_leaf.ensures l.0 l.1)
