use Rattle.aol_flat.proofs.Agree.{solutions_agree}
use Rattle.aol_flat.proofs.laws.solutions_agree.Goals as goal

pub returns : goal.returns
returns c = solutions_agree
