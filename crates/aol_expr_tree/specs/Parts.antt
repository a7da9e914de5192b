-- Trees while a text is read: of one that passes a limit only the number of its nodes is kept, counted up to the first that is too many.
use Rattle.std.specs.Prelude.{ℕ, ◌+◌, min, ◌&&◌, nat_le, List, Option, Some, None, if◌then◌else◌}
use Rattle.aol_expr_tree.specs.declared.part.Part.{Part}
use Rattle.aol_expr_tree.specs.declared.part.Part.TheVariants.{Kept, Forgotten}
use Rattle.aol_expr_tree.specs.Tree.{Tree, read, Trees, no_trees, tree_and, nodes, depth, max_nodes, max_depth}

-- so many nodes, of which the tree is forgotten
abbrev pub forgotten : ℕ → Part
forgotten n = Forgotten (min n (max_nodes + 1))

-- the tree, where it is within the limits
unfoldable pub seen : Tree → Part
seen t = if nat_le (nodes t) max_nodes && nat_le (depth t) max_depth then Kept t else forgotten (nodes t)

-- how many nodes there are, as far as they are counted
abbrev pub node_count : Part → ℕ
node_count (Kept t) = nodes t
node_count (Forgotten n) = n

-- a node over one part
unfoldable pub over_one : (Tree → Tree) → Part → Part
over_one f (Kept t) = seen (f t)
over_one f (Forgotten n) = forgotten (1 + n)

-- a node over two parts
unfoldable pub over_two : (Tree → Tree → Tree) → Part → Part → Part
over_two f (Kept l) (Kept r) = seen (f l r)
over_two f l r = forgotten (1 + node_count l + node_count r)

-- a node over three parts
unfoldable pub over_three : (Tree → Tree → Tree → Tree) → Part → Part → Part → Part
over_three f (Kept c) (Kept a) (Kept b) = seen (f c a b)
over_three f c a b = forgotten (1 + node_count c + node_count a + node_count b)

-- trees, and one after them
abbrev pub followed_by : Trees → Tree → Trees
followed_by no_trees t = tree_and t no_trees
followed_by (tree_and s ts) t = tree_and s (followed_by ts t)

-- the port and the indices, where the tree is a read of a port
abbrev pub read_parts : Tree → Option (List ℕ × Trees)
read_parts (read x at) = Some (x, at)
read_parts _ = None

-- a read of a port with one more index
unfoldable pub with_index : Part → Part → Part
with_index (Kept p) (Kept t) = by_read (read_parts p)
  where
    by_read : Option (List ℕ × Trees) → Part
    by_read (Some r) = seen (read r.0 (followed_by r.1 t))
    by_read None = forgotten (nodes p + nodes t)
with_index p q = forgotten (node_count p + node_count q)
