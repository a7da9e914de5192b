use Rattle.aol_step_lines.proofs.OneReply.{kept_have_no_reply}
use Rattle.aol_step_lines.proofs.laws.kept_steps_have_no_reply.Goals as goal

pub returns : goal.returns
returns c = kept_have_no_reply
