use Rattle.aol_expr_grammar.proofs.Completed.{right}
use Rattle.aol_expr_grammar.proofs.laws.expressions_are_read_right.Goals as goal

pub returns : goal.returns
returns c = right
