use Rattle.std.proofs.Common.{map, ap, ◌∙◌}
use Rattle.aol_expr_tree.specs.Node.{tree_of}
use Rattle.aol_expr_tree.proofs.Nodes.{mapped-more}
use Rattle.aol_expr_tree.proofs.copy.+copy.Goals as goal

pub copy_all-loop-node-preserved : goal.copy_all-loop-node-preserved
copy_all-loop-node-preserved t c =
    ap (map tree_of) c.in_ok-push.ensures.ok
    ∙ mapped-more tree_of tree_of c.loop-node.copies c.as_slice-node-items.result.now c.loop-node.node-index c.in_ok-copy_of.field-0 c.node-item.result
    c.loop-node.invariant c.loop-node-test.true c.node-item.is c.in_ok-copy_of.ensures
