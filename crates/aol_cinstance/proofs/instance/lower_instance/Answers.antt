use Rattle.aol_lower.specs.Stored.{trees_of}
use Rattle.aol_lower.proofs.Made.{if_ok_map}
use Rattle.aol_cinstance.proofs.BodyFits.{made_fits}
use Rattle.aol_cinstance.proofs.Whole.{made_computes}
use Rattle.aol_cinstance.proofs.instance.lower_instance.Goals as goal

pub returns-clause-value : goal.returns-clause-value
returns-clause-value c = if_ok_map c.made.result (λ body m. made_computes c.args.tables c.args.task.now c.args.before (trees_of body) m) c.made.ensures

pub returns-clause-formed : goal.returns-clause-formed
returns-clause-formed c = if_ok_map c.made.result (λ body m. made_fits c.args.tables c.args.task.now c.args.before (trees_of body) m) c.made.ensures
