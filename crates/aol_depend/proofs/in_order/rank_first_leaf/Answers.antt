use Rattle.std.proofs.Common.{arith}
use Rattle.aol_depend.proofs.FirstLevels.{first_leaf_begun, first_leaf_more, first_leaf_done}
use Rattle.aol_depend.proofs.in_order.rank_first_leaf.Goals as goal

pub loop-number-init : goal.loop-number-init
loop-number-init c = first_leaf_begun c.args.flat.now c.args.leaf c.leaf.result.now c.leaf.ensures c.requires.reads c.args.levels.now.items

pub loop-number-preserved : goal.loop-number-preserved
loop-number-preserved c =
    first_leaf_more c.args.flat.now c.args.leaf c.leaf.result.now c.leaf.ensures c.requires.reads c.loop-number._number c.args.levels.now.items c.loop-number.levels.items c.push.new.levels.items
    c.loop-number-test.true c.loop-number.invariant c.in_ok-push.ensures

pub returns : goal.returns
returns c =
    first_leaf_done c.args.flat.now c.args.leaf c.leaf.result.now c.leaf.ensures c.requires.reads c.loop-number._number c.args.levels.now.items c.loop-number.levels.items
    (omega (arith, c.loop-number-test.false, c.loop-number.auto._number-end)) c.loop-number.invariant
