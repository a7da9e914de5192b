use Rattle.std.proofs.Common.{◌≡◌, map, take}
use Rattle.aol_expr_tree.specs.Node.{tree_of}
use Rattle.aol_expr_tree.proofs.copy.+copy.Given as goal

abbrev pub invariant-copy_all-loop-node : goal.invariant-copy_all-loop-node
invariant-copy_all-loop-node l = map tree_of l.copies ≡ map tree_of (take l.node-index l.node-items)
