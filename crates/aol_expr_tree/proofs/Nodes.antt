-- Lists of nodes as lists of trees.
use Rattle.std.proofs.Common.{◌≡◌, ℕ, ◌+◌, ◌<◌, List, [], ◌∷◌, ◌++◌, length, map, take, get_or, refl, ap, suc, ◌∙◌, add-one}
use Rattle.std.proofs.lemmas.List.{map-append, take_more}
use Rattle.aol_expr_tree.specs.declared.node.ExprNode.{ExprNode}
use Rattle.aol_expr_tree.specs.Node.{trees_of}
use Rattle.aol_expr_tree.specs.Tree.{tree_count}

-- there are as many trees as nodes
pub nodes_counted : (nodes : List ExprNode) → tree_count (trees_of nodes) ≡ length nodes
nodes_counted [] = refl
nodes_counted (node ∷ nodes) = rw add-one (ap suc (nodes_counted nodes))

-- one more item of a list that is made item by item
pub mapped-more : {X Y T : Type 0} (f : X → T) (g : Y → T) (made : List X) (items : List Y) (k : ℕ) (one : X) (item : Y) → map f made ≡ map g (take k items)
    → k < length items → item ≡ get_or items k item → f one ≡ g item → map f (made ++ one ∷ []) ≡ map g (take (k + 1) items)
mapped-more f g made items k one item so_far below is same =
    rw (take_more items k item below, ← is, map-append f made (one ∷ []), map-append g (take k items) (item ∷ []))
    (ap (λ ts. ts ++ f one ∷ []) so_far ∙ ap (λ t. map g (take k items) ++ t ∷ []) same)
