use Rattle.std.proofs.Common.{◌≡◌, ◌+◌, ◌<◌, ◌^◌, ◌++◌, drop}
use Rattle.aol_expr_tree.specs.Node.{trees_of as nodes_of}
use Rattle.aol_lower.specs.Lowered.{all_lowered}
use Rattle.aol_lower.specs.Small.{room_of}
use Rattle.aol_lower.specs.Stored.{scope_of, setting_of, trees_of}
use Rattle.aol_lower.proofs.lower.+lower.Given as goal

abbrev pub invariant-lower_indices-loop-node : goal.invariant-lower_indices-loop-node
invariant-lower_indices-loop-node l = record {
  at : l.at ≡ l.d + l.node-index;
  space : l.at + room_of (nodes_of (drop l.node-index l.node-items)) + 1 < 2 ^ 32;
  made : trees_of l.out ++ all_lowered (setting_of l.shared) (scope_of l.scope) l.at (nodes_of (drop l.node-index l.node-items))
      ≡ trees_of l.initial.out ++ all_lowered (setting_of l.shared) (scope_of l.scope) l.d (nodes_of l.node-items);
}
