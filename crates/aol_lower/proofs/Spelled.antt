-- An expression within the limits of its text has numbers of the code.
use Rattle.std.specs.Prelude.{◌≡◌, ℕ, ◌+◌, ◌*◌, ◌<◌, ◌≤◌, ◌^◌, true, ◌&&◌, nat_le}
use Rattle.std.proofs.Common.{arith}
use Rattle.std.proofs.Math.Nat.{mul-le-mul_right}
use Rattle.std.proofs.lemmas.Bool.{leb-true}
use Rattle.aol_shape.specs.Texts.{is_name}
use Rattle.aol_csyn.proofs.Expressions.{and_left, and_right}
use Rattle.aol_expr_tree.specs.Tree.{Tree, num, index, var, read, bin, if_else, sum, Trees, no_trees, tree_and, is_bound, is_spelled, are_spelled, max_terms, IsExpr}
use Rattle.aol_lower.specs.Small.{IsSmall, AreSmall}

-- a sum inside sums with so many terms
bound_small : (around n : ℕ) → 1 ≤ around → is_bound around n ≡ true → (n < 2 ^ 32) × (1 ≤ around * n)
bound_small around n some h =
    let one : 1 ≤ n = leb-true 1 n (and_left (nat_le 1 n) (nat_le (around * n) max_terms) h) in
    let few : around * n ≤ 1048576 = leb-true (around * n) max_terms (and_right (nat_le 1 n) (nat_le (around * n) max_terms) h) in
    let own : 1 * n ≤ around * n = mul-le-mul_right n some in
    (omega (arith, few, own), omega (arith, one, own))

mutual
  spelled_small : (around : ℕ) (e : Tree) → 1 ≤ around → is_spelled around e ≡ true → IsSmall e
  spelled_small around (num z) some h = h
  spelled_small around (index k) some h = tt
  spelled_small around (var x) some h = tt
  spelled_small around (read p at) some h = all_small around at some (and_right (is_name p) (are_spelled around at) h)
  spelled_small around (bin op l r) some h =
      (spelled_small around l some (and_left (is_spelled around l) (is_spelled around r) h), spelled_small around r some (and_right (is_spelled around l) (is_spelled around r) h))
  spelled_small around (if_else c a b) some h =
      let first = and_left (is_spelled around c && is_spelled around a) (is_spelled around b) h in (
        spelled_small around c some (and_left (is_spelled around c) (is_spelled around a) first),
        spelled_small around a some (and_right (is_spelled around c) (is_spelled around a) first),
        spelled_small around b some (and_right (is_spelled around c && is_spelled around a) (is_spelled around b) h),
      )
  spelled_small around (sum x n e) some h =
      let first = and_left (is_name x && is_bound around n) (is_spelled (around * n) e) h in
      let bound = bound_small around n some (and_right (is_name x) (is_bound around n) first) in
      (bound.0, spelled_small (around * n) e bound.1 (and_right (is_name x && is_bound around n) (is_spelled (around * n) e) h))

  all_small : (around : ℕ) (ts : Trees) → 1 ≤ around → are_spelled around ts ≡ true → AreSmall ts
  all_small around no_trees some h = tt
  all_small around (tree_and t ts) some h =
      (spelled_small around t some (and_left (is_spelled around t) (are_spelled around ts) h), all_small around ts some (and_right (is_spelled around t) (are_spelled around ts) h))

pub expr_small : (e : Tree) → IsExpr e → IsSmall e
expr_small e h = spelled_small 1 e (omega arith) h.spelled
