-- What the reader of expressions answers in the code, beside what reading the text answers.
use Rattle.std.specs.Prelude.{◌≡◌, List, ℕ, Result, Ok, Err}
use Rattle.aol_shape.specs.Grammar.{TextFault, at, limit, Reads}
use Rattle.aol_expr_tree.specs.declared.expr.ExprRefused.{ExprRefused}
use Rattle.aol_expr_tree.specs.declared.expr.ExprRefused.TheVariants.{At, Limit, NoMemory}
use Rattle.aol_expr_tree.specs.Tree.{Tree}
use Rattle.aol_expr_tree.specs.Text.{expr_grammar}

-- the answer is what reading gives, unless memory ran out
abbrev pub Gives : Result Tree ExprRefused → Result Tree TextFault → Type 0
Gives (Ok e) read = read ≡ Ok e
Gives (Err (At byte)) read = read ≡ Err (at byte)
Gives (Err (Limit byte passed)) read = read ≡ Err (limit byte passed)
Gives (Err NoMemory) read = Unit {0}

-- the answer is right by the grammar, unless memory ran out
abbrev pub IsRight : List ℕ → Result Tree ExprRefused → Type 0
IsRight text (Ok e) = Reads expr_grammar text (Ok e)
IsRight text (Err (At byte)) = Reads expr_grammar text (Err (at byte))
IsRight text (Err (Limit byte passed)) = Reads expr_grammar text (Err (limit byte passed))
IsRight text (Err NoMemory) = Unit {0}
