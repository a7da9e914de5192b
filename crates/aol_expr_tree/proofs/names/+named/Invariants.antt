use Rattle.std.proofs.Common.{◌≡◌, drop}
use Rattle.aol_expr_tree.specs.Names.{all_names_ok}
use Rattle.aol_expr_tree.specs.Node.{trees_of}
use Rattle.aol_expr_tree.specs.BoundNames.{names_of}
use Rattle.aol_expr_tree.proofs.names.+named.Given as goal

abbrev pub invariant-all_named-loop-node : goal.invariant-all_named-loop-node
invariant-all_named-loop-node l = all_names_ok l.ins l.out_rank (names_of l.bound) (trees_of l.nodes) ≡ all_names_ok l.ins l.out_rank (names_of l.bound) (trees_of (drop l.node-index l.nodes))
