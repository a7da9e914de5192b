use Rattle.std.proofs.Common.{◌≡◌, ◌+◌, drop}
use Rattle.aol_expr_tree.specs.Node.{trees_of}
use Rattle.aol_expr_tree.specs.Tree.{work_of}
use Rattle.aol_expr_tree.proofs.cost.+work.Given as goal

abbrev pub invariant-nodes_work-loop-node : goal.invariant-nodes_work-loop-node
invariant-nodes_work-loop-node l = l.work + work_of (trees_of (drop l.node-index l.nodes)) ≡ work_of (trees_of l.nodes)
