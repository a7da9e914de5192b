use Rattle.aol_program.proofs.OneRefusal.{one_refusal}
use Rattle.aol_program.proofs.laws.there_is_one_refusal.Goals as goal

pub returns : goal.returns
returns c = one_refusal
