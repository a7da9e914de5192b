use Rattle.aol_rules.proofs.agree.compound.test_compound.Goals as goal

pub returns : goal.returns
returns c = c.test_graph.ensures
