use Rattle.aol_rules.proofs.agree.repeated.test_repeated.Goals as goal

pub returns : goal.returns
returns c = c.test_repetition.ensures
