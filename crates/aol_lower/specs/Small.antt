-- How many variables the statements of an expression take, and which expressions have numbers of the code.
use Rattle.std.specs.Prelude.{◌≡◌, ℕ, ◌+◌, ◌<◌, ◌^◌, max, ℤ, true}
use Rattle.aol_shape.specs.Numbers.{fits_64}
use Rattle.aol_expr_tree.specs.Tree.{Tree, num, index, var, read, bin, if_else, sum, Trees, no_trees, tree_and}

abbrev mutual
  -- the number of variables
  pub room : Tree → ℕ
  room (num z) = 1
  room (index k) = 1
  room (var x) = 1
  room (read p at) = room_of at + 1
  room (bin op l r) = max (room l) (room r + 1)
  room (if_else c a b) = max (room c) (max (room a) (room b))
  room (sum x n e) = room e + 2

  -- one after another
  pub room_of : Trees → ℕ
  room_of no_trees = 0
  room_of (tree_and t ts) = max (room t) (room_of ts + 1)

abbrev mutual
  -- numbers have 64 bits, and counts of terms 32
  pub IsSmall : Tree → Type 0
  IsSmall (num z) = fits_64 z ≡ true
  IsSmall (index k) = Unit {0}
  IsSmall (var x) = Unit {0}
  IsSmall (read p at) = AreSmall at
  IsSmall (bin op l r) = IsSmall l × IsSmall r
  IsSmall (if_else c a b) = IsSmall c × IsSmall a × IsSmall b
  IsSmall (sum x n e) = (n < 2 ^ 32) × IsSmall e

  pub AreSmall : Trees → Type 0
  AreSmall no_trees = Unit {0}
  AreSmall (tree_and t ts) = IsSmall t × AreSmall ts
