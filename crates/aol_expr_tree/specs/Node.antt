-- The tree that stored nodes stand for.
use Rattle.std.specs.Prelude.{List, map}
use Rattle.aol_expr_tree.specs.declared.node.ExprNode.{ExprNode}
use Rattle.aol_expr_tree.specs.declared.node.ExprNode.TheOpen.{ExprNode-F}
use Rattle.aol_expr_tree.specs.declared.node.ExprNode.TheFolds.{fold-ExprNode}
use Rattle.aol_expr_tree.specs.Tree.{Tree, num, index, var, read, bin, if_else, sum, Trees, trees}

-- one level, with each node inside already seen as its tree
abbrev pub level_tree : ExprNode-F Tree → Tree
level_tree (ExprNode-F.Num z) = num z
level_tree (ExprNode-F.Index k) = index k
level_tree (ExprNode-F.Var x) = var x
level_tree (ExprNode-F.Read p at) = read p (trees at)
level_tree (ExprNode-F.Bin op l r) = bin op l.value r.value
level_tree (ExprNode-F.If c a b) = if_else c.value a.value b.value
level_tree (ExprNode-F.Sum x n e) = sum x n e.value

-- the tree of a node
abbrev pub tree_of : ExprNode → Tree
tree_of = fold-ExprNode Tree level_tree

-- the trees of a list of nodes
abbrev pub trees_of : List ExprNode → Trees
trees_of es = trees (map tree_of es)
