use Rattle.aol_program.proofs.OneReply.{one_reply}
use Rattle.aol_program.proofs.laws.there_is_one_reply.Goals as goal

pub returns : goal.returns
returns c = one_reply
