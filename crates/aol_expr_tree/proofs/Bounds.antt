-- The work of an expression within its limits fits 64 bits.
use Rattle.std.proofs.Common.{◌≡◌, ℕ, ◌*◌, ◌≤◌, ◌<◌, ◌^◌, Bool, true, false, ◌&&◌, nat_le, arith, refl}
use Rattle.std.proofs.lemmas.Bool.{leb-true}
use Rattle.aol_shape.specs.Texts.{is_name}
use Rattle.aol_expr_tree.specs.Tree.{Tree, num, index, var, read, bin, if_else, sum, Trees, no_trees, tree_and, work, work_of, nodes, nodes_of, is_spelled, are_spelled, is_bound, IsExpr}

both : (a b : Bool) → (a && b) ≡ true → (a ≡ true) × (b ≡ true)
both true b h = (refl, h)
both false b h = absurd (cc)

mutual
  -- inside sums with so many terms, each node is evaluated at most 1,048,576 times
  bounded : (around : ℕ) (t : Tree) → around ≤ 1048576 → is_spelled around t ≡ true → around * work t ≤ nodes t * 1048576
  bounded around (num z) few spelled = omega arith
  bounded around (index k) few spelled = omega arith
  bounded around (var x) few spelled = omega arith
  bounded around (read p at) few spelled =
      omega (arith, all_bounded around at few (both (is_name p) (are_spelled around at) spelled).1)
  bounded around (bin op l r) few spelled =
      let parts = both (is_spelled around l) (is_spelled around r) spelled in
      omega (arith, bounded around l few parts.0, bounded around r few parts.1)
  bounded around (if_else c a b) few spelled =
      let parts = both (is_spelled around c && is_spelled around a) (is_spelled around b) spelled in
      let front = both (is_spelled around c) (is_spelled around a) parts.0 in
      omega (arith, bounded around c few front.0, bounded around a few front.1, bounded around b few parts.1)
  bounded around (sum x n e) few spelled =
      let parts = both (is_name x && is_bound around n) (is_spelled (around * n) e) spelled in
      let bound = both (is_name x) (is_bound around n) parts.0 in
      let terms = leb-true (around * n) 1048576 (both (nat_le 1 n) (nat_le (around * n) 1048576) bound.1).1 in
      omega (arith, bounded (around * n) e terms parts.1)

  all_bounded : (around : ℕ) (ts : Trees) → around ≤ 1048576 → are_spelled around ts ≡ true → around * work_of ts ≤ nodes_of ts * 1048576
  all_bounded around no_trees few spelled = omega arith
  all_bounded around (tree_and t ts) few spelled =
      let parts = both (is_spelled around t) (are_spelled around ts) spelled in
      omega (arith, bounded around t few parts.0, all_bounded around ts few parts.1)

-- the work of an expression fits
pub work_fits : (t : Tree) → IsExpr t → work t < 2 ^ 64
work_fits t limits = omega (arith, bounded 1 t (omega arith) limits.spelled, limits.small)
