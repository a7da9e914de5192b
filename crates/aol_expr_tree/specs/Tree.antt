-- Expressions as trees, apart from how they are stored.
use Rattle.std.specs.Prelude.{◌≡◌, ℕ, ◌+◌, ◌*◌, max, ℤ, List, [], ◌∷◌, Bool, true, ◌&&◌, nat_le, nat_lt, ◌≤◌}
use Rattle.aol_expr_tree.specs.declared.op.ExprOp.{ExprOp}
use Rattle.aol_shape.specs.Texts.{is_name}
use Rattle.aol_shape.specs.Numbers.{fits_64}

mutual
  -- a number, an index of the output point, a variable, a port at indices, an operator, a choice, or a sum over k below a bound
  pub data Tree : Type 0 where
    num : ℤ → Tree
    index : ℕ → Tree
    var : List ℕ → Tree
    read : List ℕ → Trees → Tree
    bin : ExprOp → Tree → Tree → Tree
    if_else : Tree → Tree → Tree → Tree
    sum : List ℕ → ℕ → Tree → Tree

  -- a list of trees
  pub data Trees : Type 0 where
    no_trees : Trees
    tree_and : Tree → Trees → Trees

-- a list of trees
abbrev pub trees : List Tree → Trees
trees [] = no_trees
trees (t ∷ ts) = tree_and t (trees ts)

-- how many there are
abbrev pub tree_count : Trees → ℕ
tree_count no_trees = 0
tree_count (tree_and t ts) = tree_count ts + 1

-- the number of nodes
abbrev mutual
  pub nodes : Tree → ℕ
  nodes (num z) = 1
  nodes (index k) = 1
  nodes (var x) = 1
  nodes (read p at) = 1 + nodes_of at
  nodes (bin op l r) = 1 + nodes l + nodes r
  nodes (if_else c a b) = 1 + nodes c + nodes a + nodes b
  nodes (sum x n e) = 1 + nodes e

  pub nodes_of : Trees → ℕ
  nodes_of no_trees = 0
  nodes_of (tree_and t ts) = nodes t + nodes_of ts

-- the depth, 1 for a single node
abbrev mutual
  pub depth : Tree → ℕ
  depth (num z) = 1
  depth (index k) = 1
  depth (var x) = 1
  depth (read p at) = 1 + depth_of at
  depth (bin op l r) = 1 + max (depth l) (depth r)
  depth (if_else c a b) = 1 + max (depth c) (max (depth a) (depth b))
  depth (sum x n e) = 1 + depth e

  pub depth_of : Trees → ℕ
  depth_of no_trees = 0
  depth_of (tree_and t ts) = max (depth t) (depth_of ts)

-- how many evaluations of a node one evaluation takes at most
abbrev mutual
  pub work : Tree → ℕ
  work (num z) = 1
  work (index k) = 1
  work (var x) = 1
  work (read p at) = 1 + work_of at
  work (bin op l r) = 1 + work l + work r
  work (if_else c a b) = 1 + work c + work a + work b
  work (sum x n e) = 1 + n * work e

  pub work_of : Trees → ℕ
  work_of no_trees = 0
  work_of (tree_and t ts) = work t + work_of ts

-- the most terms of nested sums, nodes of an expression, levels of its tree, and open brackets
abbrev pub max_terms : ℕ
max_terms = 1048576

-- the most nodes of an expression
abbrev pub max_nodes : ℕ
max_nodes = 10000

-- the most levels of its tree
abbrev pub max_depth : ℕ
max_depth = 100

-- the most brackets that are open at one byte
abbrev pub max_brackets : ℕ
max_brackets = 100

-- a bound of a sum inside sums with so many terms
abbrev pub is_bound : ℕ → ℕ → Bool
is_bound around n = nat_le 1 n && nat_le (around * n) max_terms

-- some text spells the tree's parts, inside sums with so many terms
abbrev mutual
  pub is_spelled : ℕ → Tree → Bool
  is_spelled around (num z) = fits_64 z
  is_spelled around (index k) = nat_lt k 100
  is_spelled around (var x) = is_name x
  is_spelled around (read p at) = is_name p && are_spelled around at
  is_spelled around (bin op l r) = is_spelled around l && is_spelled around r
  is_spelled around (if_else c a b) = is_spelled around c && is_spelled around a && is_spelled around b
  is_spelled around (sum x n e) = is_name x && is_bound around n && is_spelled (around * n) e

  pub are_spelled : ℕ → Trees → Bool
  are_spelled around no_trees = true
  are_spelled around (tree_and t ts) = is_spelled around t && are_spelled around ts

-- some text within the limits stands for the tree
pub record IsExpr (e : Tree) : Type 0 where
  pub spelled : is_spelled 1 e ≡ true
  pub small : nodes e ≤ max_nodes
  pub shallow : depth e ≤ max_depth
