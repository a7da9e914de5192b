-- Trees with one more behind them.
use Rattle.std.proofs.Common.{◌≡◌, ◌+◌, max, List, [], ◌∷◌, ◌++◌, map, refl, ap, ◌∙◌, arith}
use Rattle.std.proofs.lemmas.List.{map-append}
use Rattle.aol_expr_tree.specs.declared.node.ExprNode.{ExprNode}
use Rattle.aol_expr_tree.specs.Node.{tree_of, trees_of}
use Rattle.aol_expr_tree.specs.Tree.{Tree, Trees, no_trees, tree_and, trees, nodes, nodes_of, depth, depth_of}
use Rattle.aol_expr_tree.specs.Parts.{followed_by}

trees_followed : (at : List Tree) (t : Tree) → trees (at ++ t ∷ []) ≡ followed_by (trees at) t
trees_followed [] t = refl
trees_followed (s ∷ at) t = ap (λ ts. tree_and s ts) (trees_followed at t)

-- the trees of nodes with one more behind them
pub trees_of_followed : (at more : List ExprNode) (e : ExprNode) → more ≡ at ++ e ∷ [] → trees_of more ≡ followed_by (trees_of at) (tree_of e)
trees_of_followed at more e h = ap trees_of h ∙ ap trees (map-append tree_of at (e ∷ [])) ∙ trees_followed (map tree_of at) (tree_of e)

pub nodes_followed : (ts : Trees) (t : Tree) → nodes_of (followed_by ts t) ≡ nodes_of ts + nodes t
nodes_followed no_trees t = omega arith
nodes_followed (tree_and s ts) t = omega (arith, nodes_followed ts t)

pub depth_followed : (ts : Trees) (t : Tree) → depth_of (followed_by ts t) ≡ max (depth_of ts) (depth t)
depth_followed no_trees t = omega arith
depth_followed (tree_and s ts) t = omega (arith, depth_followed ts t)
