use Rattle.aol_transform.proofs.Agree.{kept_steps_agree}
use Rattle.aol_transform.proofs.laws.kept_steps_agree.Goals as goal

pub returns : goal.returns
returns c = kept_steps_agree
