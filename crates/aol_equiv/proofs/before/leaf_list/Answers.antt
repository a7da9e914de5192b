use Rattle.std.proofs.Common.{arith}
use Rattle.aol_equiv.proofs.Olds.{leaves_more, all_leaves}
use Rattle.aol_equiv.proofs.before.leaf_list.Goals as goal

pub loop-leaf-preserved : goal.loop-leaf-preserved
loop-leaf-preserved c = leaves_more c.args.flat.now.model c.loop-leaf.leaf c.leaf.result.now c.leaf.ensures c.loop-leaf.list.items c.push_leaf.new.list.items c.loop-leaf.invariant c.in_ok-push_leaf.ensures

pub returns : goal.returns
returns c = all_leaves c.args.flat.now.model c.loop-leaf.leaf c.loop-leaf.list.items c.loop-leaf.invariant (omega (arith, c.leaves-leaf-end.ensures))
