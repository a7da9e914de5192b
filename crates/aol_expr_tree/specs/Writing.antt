-- The canonical text of an expression: no blanks, no leading zeros, and parentheses only where they are needed.
use Rattle.std.specs.Prelude.{ℕ, List, [], ◌∷◌, ◌++◌, Bool, ◌&&◌, ◌||◌, ◌==◌, nat_le, nat_lt, codes, decimal, if◌then◌else◌}
use Rattle.std.specs.Fmt.{signed_decimal}
use Rattle.std.specs.List.{join_with_byte}
use Rattle.aol_expr_tree.specs.declared.op.ExprOp.{ExprOp}
use Rattle.aol_expr_tree.specs.Tree.{Tree, num, index, var, read, bin, if_else, sum, Trees, no_trees, tree_and}
use Rattle.aol_expr_tree.specs.Text.{strength, is_infix, alone, op_text}

-- how tightly a tree's operator binds
abbrev pub tree_strength : Tree → ℕ
tree_strength (num z) = alone
tree_strength (index k) = alone
tree_strength (var x) = alone
tree_strength (read p at) = alone
tree_strength (bin op l r) = strength op
tree_strength (if_else c a b) = alone
tree_strength (sum x n e) = alone

-- a left operand binds less tightly than the operator, or both are comparisons
abbrev pub left_needs : ExprOp → Tree → Bool
left_needs op l = nat_lt (tree_strength l) (strength op) || (strength op == 0 && tree_strength l == 0)

-- a right operand binds less tightly than the operator, or equally
abbrev pub right_needs : ExprOp → Tree → Bool
right_needs op r = nat_le (tree_strength r) (strength op)

-- texts behind a word, in parentheses
abbrev pub called : List ℕ → List (List ℕ) → List ℕ
called word ms = word ++ 40 ∷ join_with_byte 44 ms ++ 41 ∷ []

-- a bracket, where it is needed
abbrev pub mark : Bool → ℕ → List ℕ
mark needs b = if needs then b ∷ [] else []

-- a text, in parentheses where they are needed
abbrev pub guarded : Bool → List ℕ → List ℕ
guarded needs text = mark needs 40 ++ text ++ mark needs 41

abbrev mutual
  pub expr_text : Tree → List ℕ
  expr_text (num z) = signed_decimal z
  expr_text (index k) = 36 ∷ decimal k
  expr_text (var x) = x
  expr_text (read p at) = p ++ 123 ∷ join_with_byte 44 (expr_texts at) ++ 125 ∷ []
  expr_text (bin op l r) = if is_infix op
      then guarded (left_needs op l) (expr_text l) ++ op_text op ++ guarded (right_needs op r) (expr_text r)
      else called (op_text op) (expr_text l ∷ expr_text r ∷ [])
  expr_text (if_else c a b) = called (codes "if") (expr_text c ∷ expr_text a ∷ expr_text b ∷ [])
  expr_text (sum x n e) = called (codes "sum") (x ∷ decimal n ∷ expr_text e ∷ [])

  pub expr_texts : Trees → List (List ℕ)
  expr_texts no_trees = []
  expr_texts (tree_and t ts) = expr_text t ∷ expr_texts ts
