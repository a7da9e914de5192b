-- The names that an expression uses are there.
use Rattle.std.specs.Prelude.{ℕ, List, [], ◌∷◌, length, Bool, true, ◌&&◌, ◌==◌, nat_lt}
use Rattle.std.specs.List.{list_any}
use Rattle.aol_shape.specs.Lists.{same}
use Rattle.aol_expr_tree.specs.declared.port.Port.{Port}
use Rattle.aol_expr_tree.specs.Tree.{Tree, num, index, var, read, bin, if_else, sum, Trees, no_trees, tree_and, tree_count}

-- a port has the name, and so many indices
abbrev pub is_port : List Port → List ℕ → ℕ → Bool
is_port ins name rank = list_any (λ p. same p.name name && length p.shape == rank) ins

abbrev mutual
  -- each port read names a port with as many indices as its rank, each index of the output point is below its rank, and each variable is bound
  pub names_ok_in : List Port → ℕ → List (List ℕ) → Tree → Bool
  names_ok_in ins rank bound (num z) = true
  names_ok_in ins rank bound (index k) = nat_lt k rank
  names_ok_in ins rank bound (var x) = list_any (same x) bound
  names_ok_in ins rank bound (read p at) = is_port ins p (tree_count at) && all_names_ok ins rank bound at
  names_ok_in ins rank bound (bin op l r) = names_ok_in ins rank bound l && names_ok_in ins rank bound r
  names_ok_in ins rank bound (if_else c a b) = names_ok_in ins rank bound c && names_ok_in ins rank bound a && names_ok_in ins rank bound b
  names_ok_in ins rank bound (sum x n e) = names_ok_in ins rank (x ∷ bound) e

  pub all_names_ok : List Port → ℕ → List (List ℕ) → Trees → Bool
  all_names_ok ins rank bound no_trees = true
  all_names_ok ins rank bound (tree_and t ts) = names_ok_in ins rank bound t && all_names_ok ins rank bound ts

-- the names of a whole expression are there
abbrev pub names_ok : List Port → ℕ → Tree → Bool
names_ok ins rank e = names_ok_in ins rank [] e
