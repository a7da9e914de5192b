use Rattle.aol_program.proofs.Acceptance.{no_cause}
use Rattle.aol_program.proofs.laws.accepted_have_no_cause.Goals as goal

pub returns : goal.returns
returns c = no_cause
