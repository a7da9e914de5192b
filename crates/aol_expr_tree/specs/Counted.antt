-- The numbers of a tree that the limits bound.
use Rattle.std.specs.Prelude.{◌≡◌, ℕ, ◌≤◌}
use Rattle.aol_expr_tree.specs.Tree.{Tree, nodes, depth, max_nodes, max_depth}

-- the tree has so many nodes and levels, and no more than the limits allow
pub record IsCounted (t : Tree) (n d : ℕ) : Type 0 where
  pub counted : nodes t ≡ n
  pub measured : depth t ≡ d
  pub small : n ≤ max_nodes
  pub shallow : d ≤ max_depth
