-- The statements of an expression.
use Rattle.std.specs.Prelude.{ℕ, zero, suc, ◌+◌, ◌-◌, ◌^◌, ℤ, pos, negsuc, List, [], ◌∷◌, ◌++◌, nat_lt, Option, Some, None, length, if◌then◌else◌}
use Rattle.aol_shape.specs.Lists.{same}
use Rattle.aol_expr_tree.specs.declared.op.ExprOp.{ExprOp}
use Rattle.aol_expr_tree.specs.declared.op.ExprOp.TheVariants.{Add, Sub, Mul, Div, Rem, Lt, Le, Eq, Min, Max}
use Rattle.aol_expr_tree.specs.declared.port.Port.{Port}
use Rattle.aol_expr_tree.specs.declared.value.Kind.{Kind}
use Rattle.aol_expr_tree.specs.declared.value.Kind.TheVariants.{Overflow, Divide, Index}
use Rattle.aol_expr_tree.specs.Tree.{Tree, num, index, var, read, bin, if_else, sum, Trees, no_trees, tree_and, tree_count}
use Rattle.aol_eval.specs.Resolved.{shape_of, start_of}
use Rattle.aol_csyn.specs.declared.program.COp.{COp}
use Rattle.aol_csyn.specs.declared.program.COp.TheVariants.{Add as Plus, Sub as Minus, Mul as Times, Div as Over, Rem as Rest, Lt as Below, Le as AtMost, Eq as Equal}
use Rattle.aol_csyn.specs.Tree.{Expr, num as number, var as variable, tab, cell_v, bin as between, Stmt, set_var, if_else as choice, for_each, stmts, no_stmts}
use Rattle.aol_lower.specs.declared.reads.Reads.{Reads}
use Rattle.aol_lower.specs.Effect.{kind_number}

-- ---- numbers

-- the greatest number of 64 bits
abbrev pub greatest : Expr
greatest = number (pos (2 ^ 63 - 1))

-- the least number of 64 bits
abbrev pub least : Expr
least = number (negsuc (2 ^ 63 - 1))

abbrev pub nought : Expr
nought = number (pos 0)

-- ---- statements

-- there is a fault
abbrev pub fail : Kind → Stmt
fail kind = set_var 0 (number (pos (kind_number kind)))

-- one of two
abbrev pub either : Expr → List Stmt → List Stmt → List Stmt
either test first second = choice test (stmts first) (stmts second) ∷ []

-- the statements, unless there is a fault
abbrev pub guard : List Stmt → Stmt
guard body = choice (between Equal (variable 0) nought) (stmts body) no_stmts

-- the variable x takes the result of an operator at x and y
abbrev pub assign : COp → ℕ → ℕ → List Stmt
assign op x y = set_var x (between op (variable x) (variable y)) ∷ []

-- the same where the test says that it has 64 bits
abbrev pub attempt : Expr → COp → ℕ → ℕ → List Stmt
attempt test op x y = either test (assign op x y) (fail Overflow ∷ [])

-- ---- operators, each tested before it is applied

-- one number is at most another
abbrev pub at_most : Expr → Expr → Expr
at_most a b = between AtMost a b

abbrev pub plus : ℕ → ℕ → List Stmt
plus x y = either (at_most nought (variable y))
    (attempt (at_most (variable x) (between Minus greatest (variable y))) Plus x y)
    (attempt (at_most (between Minus least (variable y)) (variable x)) Plus x y)

abbrev pub minus : ℕ → ℕ → List Stmt
minus x y = either (at_most nought (variable y))
    (attempt (at_most (between Plus least (variable y)) (variable x)) Minus x y)
    (attempt (at_most (variable x) (between Plus greatest (variable y))) Minus x y)

-- a product whose second factor is above 0; a bound is divided by the factor that is not 0
abbrev pub times_above : ℕ → ℕ → List Stmt
times_above x y = either (at_most nought (variable x))
    (attempt (at_most (variable x) (between Over greatest (variable y))) Times x y)
    (attempt (at_most (between Over least (variable y)) (variable x)) Times x y)

-- one whose factors are both not above 0
abbrev pub times_below : ℕ → ℕ → List Stmt
times_below x y = either (between Equal (variable y) nought)
    (set_var x nought ∷ [])
    (attempt (at_most (between Over greatest (variable y)) (variable x)) Times x y)

abbrev pub times : ℕ → ℕ → List Stmt
times x y = either (between Below nought (variable y)) (times_above x y)
    (either (between Below nought (variable x))
    (attempt (at_most (between Over least (variable x)) (variable y)) Times x y)
    (times_below x y))

-- a quotient or a remainder
abbrev pub divided : COp → ℕ → ℕ → List Stmt
divided op x y = either (between Equal (variable y) nought)
    (fail Divide ∷ [])
    (either (between Equal (variable y) (number (negsuc 0)))
    (attempt (between Below least (variable x)) op x y)
    (assign op x y))

abbrev pub operation : ExprOp → ℕ → ℕ → List Stmt
operation Add x y = plus x y
operation Sub x y = minus x y
operation Mul x y = times x y
operation Div x y = divided Over x y
operation Rem x y = divided Rest x y
operation Lt x y = assign Below x y
operation Le x y = assign AtMost x y
operation Eq x y = assign Equal x y
operation Min x y = either (at_most (variable x) (variable y)) [] (set_var x (variable y) ∷ [])
operation Max x y = either (at_most (variable x) (variable y)) (set_var x (variable y) ∷ []) []

-- ---- reads of ports

-- the entry of the read at the rank in a variable, after so many others
abbrev pub entry_at : Reads → ℤ → ℕ → Expr
entry_at reads start rank = tab reads.entries (between Plus (variable 1) (between Plus (number start) (variable rank)))

-- its number
abbrev pub fetched : Reads → ℤ → ℕ → ℕ → List Stmt
fetched reads start rank d = either (at_most nought (entry_at reads start rank))
    (set_var d (cell_v (entry_at reads start rank)) ∷ [])
    (set_var d (tab reads.numbers (between Minus (number (negsuc 0)) (entry_at reads start rank))) ∷ [])

-- an index from 0 to below n
abbrev pub inside : ℕ → ℕ → Expr
inside x n = between Times (at_most nought (variable x)) (between Below (variable x) (number (pos n)))

-- a rank with one more index
abbrev pub next_rank : ℕ → ℕ → ℕ → Stmt
next_rank rank n x = set_var rank (between Plus (between Times (variable rank) (number (pos n))) (variable x))

-- the element at so many indices from a variable on, after the rank of those before
abbrev pub ranked : Reads → ℤ → ℕ → ℕ → List ℕ → ℕ → ℕ → List Stmt
ranked reads start rank d [] x zero = fetched reads start rank d
ranked reads start rank d [] x (suc count) = fail Index ∷ []
ranked reads start rank d (n ∷ shape) x zero = fail Index ∷ []
ranked reads start rank d (n ∷ shape) x (suc count) =
    either (inside x n) (next_rank rank n x ∷ ranked reads start rank d shape (x + 1) count) (fail Index ∷ [])

-- the element of a port of this shape, if there is one
abbrev pub element_in : Reads → ℤ → ℕ → ℕ → Option (List ℕ) → List Stmt
element_in reads start d count None = fail Index ∷ []
element_in reads start d count (Some shape) = set_var (d + count) nought ∷ ranked reads start (d + count) d shape d count

-- ---- expressions

-- what all parts of an expression share: where numbers are read, the ports, and the rank of the output point
pub record Setting : Type 0 where
  pub reads : Reads
  pub ins : List Port
  pub rank : ℕ

-- the variable of the innermost sum that binds the name
abbrev pub bound_at : List (List ℕ × ℕ) → List ℕ → Expr
bound_at [] x = nought
bound_at (b ∷ bound) x = if same b.0 x then variable b.1 else bound_at bound x

-- an index of the output point
abbrev pub point_at : ℕ → ℕ → Expr
point_at rank k = if nat_lt k rank then variable (k + 2) else nought

-- one part and then another, unless the first is a fault
abbrev pub then_do : List Stmt → List Stmt → List Stmt
then_do first second = first ++ guard second ∷ []

-- so many terms, added one by one
abbrev pub series : ℕ → ℕ → List Stmt → List Stmt
series d n term = set_var d nought ∷ for_each (d + 1) (pos 0) (pos n) (stmts (guard (then_do term (plus d (d + 2))) ∷ [])) ∷ []

abbrev mutual
  -- the statements that leave the value in variable d, where these variables are bound; they change none below d
  pub lowered : Setting → List (List ℕ × ℕ) → ℕ → Tree → List Stmt
  lowered c bound d (num z) = set_var d (number z) ∷ []
  lowered c bound d (index k) = set_var d (point_at c.rank k) ∷ []
  lowered c bound d (var x) = set_var d (bound_at bound x) ∷ []
  lowered c bound d (read p at) = then_do (all_lowered c bound d at) (element_in c.reads (pos (start_of c.ins p)) d (tree_count at) (shape_of c.ins p))
  lowered c bound d (bin op l r) = then_do (lowered c bound d l) (then_do (lowered c bound (d + 1) r) (operation op d (d + 1)))
  lowered c bound d (if_else q a b) = then_do (lowered c bound d q) (either (variable d) (lowered c bound d a) (lowered c bound d b))
  lowered c bound d (sum x n e) = series d n (lowered c ((x, d + 1) ∷ bound) (d + 2) e)

  -- each in the next variable
  pub all_lowered : Setting → List (List ℕ × ℕ) → ℕ → Trees → List Stmt
  all_lowered c bound d no_trees = []
  all_lowered c bound d (tree_and t ts) = guard (lowered c bound d t) ∷ all_lowered c bound (d + 1) ts
