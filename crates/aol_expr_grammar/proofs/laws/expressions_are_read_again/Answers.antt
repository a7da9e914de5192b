use Rattle.aol_expr_grammar.proofs.Again.{read_again}
use Rattle.aol_expr_grammar.proofs.laws.expressions_are_read_again.Goals as goal

pub returns : goal.returns
returns c = read_again
