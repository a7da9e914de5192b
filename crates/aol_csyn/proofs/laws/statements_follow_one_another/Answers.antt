use Rattle.aol_csyn.proofs.Parts.{parts_follow}
use Rattle.aol_csyn.proofs.laws.statements_follow_one_another.Goals as goal

pub returns : goal.returns
returns c = parts_follow
