use Rattle.aol_rules.proofs.Walks.{told}
use Rattle.aol_rules.proofs.agree.model.shapes_agree.Goals as goal

pub returns-clause-first : goal.returns-clause-first
returns-clause-first c = told _ _ c.test_model.ensures
