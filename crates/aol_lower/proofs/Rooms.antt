-- How many variables expressions take.
use Rattle.std.specs.Prelude.{◌≡◌, ℕ, zero, suc, ◌+◌, ◌*◌, ◌<◌, ◌≤◌, max, List, [], ◌∷◌, length, get_or, drop}
use Rattle.std.proofs.Common.{arith, ap}
use Rattle.aol_expr_tree.specs.declared.node.ExprNode.{ExprNode}
use Rattle.aol_expr_tree.specs.Node.{tree_of, trees_of}
use Rattle.aol_eval.proofs.Evaluation.{nodes-left}
use Rattle.aol_expr_tree.specs.Tree.{Tree, num, index, var, read, bin, if_else, sum, Trees, no_trees, tree_and, tree_count, nodes, nodes_of, IsExpr}
use Rattle.aol_lower.specs.Small.{room, room_of}

mutual
  -- at most two for each node
  room_nodes : (e : Tree) → room e ≤ 2 * nodes e
  room_nodes (num z) = omega arith
  room_nodes (index k) = omega arith
  room_nodes (var x) = omega arith
  room_nodes (read p at) = let rest = rooms_nodes at in omega (arith, rest)
  room_nodes (bin op l r) = let a = room_nodes l in let b = room_nodes r in omega (arith, a, b)
  room_nodes (if_else c a b) = let x = room_nodes c in let y = room_nodes a in let z = room_nodes b in omega (arith, x, y, z)
  room_nodes (sum x n e) = let a = room_nodes e in omega (arith, a)

  rooms_nodes : (ts : Trees) → room_of ts ≤ 2 * nodes_of ts
  rooms_nodes no_trees = omega arith
  rooms_nodes (tree_and t ts) = let a = room_nodes t in let b = rooms_nodes ts in let some = some_nodes t in omega (arith, a, b, some)

  some_nodes : (e : Tree) → 1 ≤ nodes e
  some_nodes (num z) = omega arith
  some_nodes (index k) = omega arith
  some_nodes (var x) = omega arith
  some_nodes (read p at) = omega arith
  some_nodes (bin op l r) = omega arith
  some_nodes (if_else c a b) = omega arith
  some_nodes (sum x n e) = omega arith

pub few_variables : (e : Tree) → IsExpr e → room e ≤ 20000
few_variables e h = let most = room_nodes e in omega (arith, most, h.small)

-- there is a variable for each index
pub count_fits : (ts : Trees) → tree_count ts ≤ room_of ts
count_fits no_trees = omega arith
count_fits (tree_and t ts) = let rest = count_fits ts in omega (arith, rest)

-- the variables of the indices that are left behind the first of them
pub rooms_left : (nodes : List ExprNode) (k : ℕ) (node : ExprNode) → k < length nodes → node ≡ get_or nodes k node
    → room_of (trees_of (drop k nodes)) ≡ max (room (tree_of node)) (room_of (trees_of (drop (k + 1) nodes)) + 1)
rooms_left nodes k node below is = ap room_of (nodes-left nodes k node below is)

-- they come behind those before
pub rooms_rest : (nodes : List ExprNode) (k : ℕ) → k ≤ length nodes → k + room_of (trees_of (drop k nodes)) ≤ room_of (trees_of nodes)
rooms_rest nodes zero h = omega arith
rooms_rest [] (suc k) h = absurd (omega arith)
rooms_rest (node ∷ nodes) (suc k) h = let rest = rooms_rest nodes k (omega (arith, h)) in omega (arith, rest)

-- each expression takes a variable
pub some_room : (e : Tree) → 1 ≤ room e
some_room (num z) = omega arith
some_room (index k) = omega arith
some_room (var x) = omega arith
some_room (read p at) = omega arith
some_room (bin op l r) = let one = some_room l in omega (arith, one)
some_room (if_else c a b) = let one = some_room c in omega (arith, one)
some_room (sum x n e) = omega arith
