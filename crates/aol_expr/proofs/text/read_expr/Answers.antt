use Rattle.aol_expr_grammar.proofs.Completed.{answer_right}
use Rattle.aol_expr.proofs.text.read_expr.Goals as goal

pub returns-clause-right : goal.returns-clause-right
returns-clause-right c = answer_right c.args.text.now c.read_within_limits.result c.read_within_limits.ensures.read
