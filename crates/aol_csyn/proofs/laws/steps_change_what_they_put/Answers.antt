use Rattle.aol_csyn.proofs.Changes.{steps_change_what_they_put}
use Rattle.aol_csyn.proofs.laws.steps_change_what_they_put.Goals as goal

pub returns : goal.returns
returns c = steps_change_what_they_put
