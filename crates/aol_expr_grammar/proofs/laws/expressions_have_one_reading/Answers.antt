use Rattle.aol_expr_grammar.proofs.Unique.{one_tree}
use Rattle.aol_expr_grammar.proofs.laws.expressions_have_one_reading.Goals as goal

pub returns : goal.returns
returns c = one_tree
