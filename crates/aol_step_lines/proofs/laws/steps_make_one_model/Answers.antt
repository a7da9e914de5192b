use Rattle.aol_step_lines.proofs.OneReply.{one_model}
use Rattle.aol_step_lines.proofs.laws.steps_make_one_model.Goals as goal

pub returns : goal.returns
returns c = one_model
