use Rattle.aol_step_lines.proofs.OneReply.{one_steps_reply}
use Rattle.aol_step_lines.proofs.laws.steps_have_one_reply.Goals as goal

pub returns : goal.returns
returns c = one_steps_reply
