use Rattle.aol_expr_grammar.proofs.Again.{canonical_right}
use Rattle.aol_expr_grammar.proofs.laws.expressions_are_spelled.Goals as goal

pub returns : goal.returns
returns c = canonical_right
