-- The texts of expressions.
use Rattle.std.specs.Prelude.{ℕ, ◌+◌, ◌*◌, max, List, [], ◌∷◌, ◌++◌, length, Bool, true, ◌&&◌, ◌==◌, nat_le, nat_lt, codes, Option, Some, None, if◌then◌else◌}
use Rattle.std.specs.List.{list_all}
use Rattle.aol_shape.specs.declared.limit.LimitName.{LimitName}
use Rattle.aol_shape.specs.declared.limit.LimitName.TheVariants.{Number, Sums, Expression, Depth}
use Rattle.aol_shape.specs.Texts.{is_digit, is_numeral, numeral_value, are_digits, digits_value, is_name}
use Rattle.aol_shape.specs.Tokens.{Token, plain, sign, separated, braced}
use Rattle.aol_shape.specs.Grammar.{Grammar}
use Rattle.aol_expr_tree.specs.declared.op.ExprOp.{ExprOp}
use Rattle.aol_expr_tree.specs.declared.op.ExprOp.TheVariants.{Add, Sub, Mul, Div, Rem, Lt, Le, Eq, Min, Max}
use Rattle.aol_expr_tree.specs.Tree.{Tree, num, index, var, read, bin, if_else, sum, Trees, no_trees, tree_and, nodes, depth, is_bound, max_nodes, max_depth, max_brackets}
use Rattle.aol_shape.specs.Numbers.{fits_64}

mutual
  -- an expression as it is written: with its numerals, and each pair of parentheses
  pub data Written : Type 0 where
    numeral : List ℕ → Written  -- 12, -3
    dollar : List ℕ → Written  -- $k, by its digits
    name : List ℕ → Written  -- k
    indexed : List ℕ → WrittenList → Written  -- a{i,j}
    infix_of : ExprOp → Written → Written → Written  -- a+b
    function_of : ExprOp → Written → Written → Written  -- min(a,b)
    choice : Written → Written → Written → Written  -- if(c,a,b)
    summed : List ℕ → List ℕ → Written → Written  -- sum(k,4,e)
    parens : Written → Written  -- (e)

  -- a list of written expressions
  pub data WrittenList : Type 0 where
    no_written : WrittenList
    written_and : Written → WrittenList → WrittenList

-- a list of written expressions
abbrev pub written_list : List Written → WrittenList
written_list [] = no_written
written_list (w ∷ ws) = written_and w (written_list ws)

-- ---- how tightly operators bind: comparisons least, then sums, then products; what stands alone binds most

-- the strength of what stands alone
abbrev pub alone : ℕ
alone = 3

-- the two functions among the operators stand alone
abbrev pub strength : ExprOp → ℕ
strength Lt = 0
strength Le = 0
strength Eq = 0
strength Add = 1
strength Sub = 1
strength Mul = 2
strength Div = 2
strength Rem = 2
strength Min = alone
strength Max = alone

-- the operator stands between its operands
abbrev pub is_infix : ExprOp → Bool
is_infix op = nat_lt (strength op) alone

-- how tightly a written expression binds
abbrev pub written_strength : Written → ℕ
written_strength (numeral t) = alone
written_strength (dollar t) = alone
written_strength (name x) = alone
written_strength (indexed p at) = alone
written_strength (infix_of op l r) = strength op
written_strength (function_of op l r) = alone
written_strength (choice c a b) = alone
written_strength (summed x n e) = alone
written_strength (parens w) = alone

-- the operands of an infix operator: the left one binds as tightly, and more tightly at a comparison; the right one binds more tightly
abbrev pub groups_left : ExprOp → Written → Written → Bool
groups_left op l r = is_infix op && nat_le (max 1 (strength op)) (written_strength l) && nat_lt (strength op) (written_strength r)

-- ---- what is well written

abbrev mutual
  -- how deep brackets nest
  pub brackets : Written → ℕ
  brackets (numeral t) = 0
  brackets (dollar t) = 0
  brackets (name x) = 0
  brackets (indexed p at) = 1 + brackets_of at
  brackets (infix_of op l r) = max (brackets l) (brackets r)
  brackets (function_of op l r) = 1 + max (brackets l) (brackets r)
  brackets (choice c a b) = 1 + max (brackets c) (max (brackets a) (brackets b))
  brackets (summed x n e) = 1 + brackets e
  brackets (parens w) = 1 + brackets w

  pub brackets_of : WrittenList → ℕ
  brackets_of no_written = 0
  brackets_of (written_and w ws) = max (brackets w) (brackets_of ws)

abbrev mutual
  -- numerals, names and operators are such, each operator's operands bind tightly enough
  pub is_well : Written → Bool
  is_well (numeral t) = is_numeral t
  is_well (dollar t) = nat_le 1 (length t) && nat_le (length t) 2 && list_all is_digit t
  is_well (name x) = is_name x
  is_well (indexed p at) = is_name p && are_well at
  is_well (infix_of op l r) = groups_left op l r && is_well l && is_well r
  is_well (function_of op l r) = strength op == alone && is_well l && is_well r
  is_well (choice c a b) = is_well c && is_well a && is_well b
  is_well (summed x n e) = is_name x && are_digits n && is_well e
  is_well (parens w) = is_well w

  pub are_well : WrittenList → Bool
  are_well no_written = true
  are_well (written_and w ws) = is_well w && are_well ws

-- ---- tokens

-- `+`, `min`, ..
abbrev pub op_text : ExprOp → List ℕ
op_text Add = codes "+"
op_text Sub = codes "-"
op_text Mul = codes "*"
op_text Div = codes "/"
op_text Rem = codes "%"
op_text Lt = codes "<"
op_text Le = codes "<="
op_text Eq = codes "=="
op_text Min = codes "min"
op_text Max = codes "max"

-- a numeral, which passes `number` where it isn't in 64 bits
abbrev pub numeral_token : List ℕ → Token
numeral_token t = record { text = t; passes = if fits_64 (numeral_value t) then None else Some Number }

-- a bound, which passes `sums` where there are too few or too many terms inside the sums around it
abbrev pub bound_token : ℕ → List ℕ → Token
bound_token around t = record { text = t; passes = if is_bound around (digits_value t) then None else Some Sums }

-- arguments in parentheses
abbrev pub in_parens : List (List Token) → List Token
in_parens ms = sign 40 ∷ separated ms ++ sign 41 ∷ []

abbrev mutual
  -- the tokens, inside sums with so many terms
  pub tokens_in : ℕ → Written → List Token
  tokens_in around (numeral t) = numeral_token t ∷ []
  tokens_in around (dollar t) = plain (36 ∷ t) ∷ []
  tokens_in around (name x) = plain x ∷ []
  tokens_in around (indexed p at) = plain p ∷ braced (token_lists around at)
  tokens_in around (infix_of op l r) = tokens_in around l ++ plain (op_text op) ∷ tokens_in around r
  tokens_in around (function_of op l r) = plain (op_text op) ∷ in_parens (tokens_in around l ∷ tokens_in around r ∷ [])
  tokens_in around (choice c a b) = plain (codes "if") ∷ in_parens (tokens_in around c ∷ tokens_in around a ∷ tokens_in around b ∷ [])
  tokens_in around (summed x n e) = plain (codes "sum") ∷ in_parens ((plain x ∷ []) ∷ (bound_token around n ∷ []) ∷ tokens_in (around * digits_value n) e ∷ [])
  tokens_in around (parens w) = in_parens (tokens_in around w ∷ [])

  pub token_lists : ℕ → WrittenList → List (List Token)
  token_lists around no_written = []
  token_lists around (written_and w ws) = tokens_in around w ∷ token_lists around ws

-- ---- the tree, which forgets parentheses and leading zeros

abbrev mutual
  pub tree_written : Written → Tree
  tree_written (numeral t) = num (numeral_value t)
  tree_written (dollar t) = index (digits_value t)
  tree_written (name x) = var x
  tree_written (indexed p at) = read p (trees_written at)
  tree_written (infix_of op l r) = bin op (tree_written l) (tree_written r)
  tree_written (function_of op l r) = bin op (tree_written l) (tree_written r)
  tree_written (choice c a b) = if_else (tree_written c) (tree_written a) (tree_written b)
  tree_written (summed x n e) = sum x (digits_value n) (tree_written e)
  tree_written (parens w) = tree_written w

  pub trees_written : WrittenList → Trees
  trees_written no_written = no_trees
  trees_written (written_and w ws) = tree_and (tree_written w) (trees_written ws)

-- the limit that the whole passes: of nodes before depth
abbrev pub tree_limit : Tree → Option LimitName
tree_limit e = if nat_le (nodes e) max_nodes then (if nat_le (depth e) max_depth then None else Some Depth) else Some Expression

-- the grammar of expressions
abbrev pub expr_grammar : Grammar Written Tree
expr_grammar = record {
  tokens = tokens_in 1;
  is_written = λ w. is_well w && nat_le (brackets w) max_brackets;
  whole_limit = λ w. tree_limit (tree_written w);
  value = tree_written;
}
