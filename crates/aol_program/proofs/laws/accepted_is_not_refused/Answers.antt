use Rattle.aol_program.proofs.OneRefusal.{accepted_not_refused}
use Rattle.aol_program.proofs.laws.accepted_is_not_refused.Goals as goal

pub returns : goal.returns
returns c = accepted_not_refused
