use Rattle.std.proofs.Common.{◌≡◌, ◌+◌, max, drop}
use Rattle.aol_expr_tree.specs.Node.{trees_of}
use Rattle.aol_lower.specs.Small.{room_of}
use Rattle.aol_lower.proofs.space.+space.Given as goal

abbrev pub invariant-nodes_room-loop-node : goal.invariant-nodes_room-loop-node
invariant-nodes_room-loop-node l = record {
  counted : l.count ≡ l.node-index;
  left : max l.room (l.count + room_of (trees_of (drop l.node-index l.node-items))) ≡ room_of (trees_of l.node-items);
}
