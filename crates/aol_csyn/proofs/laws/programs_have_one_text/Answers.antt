use Rattle.aol_csyn.proofs.Programs.{one_program}
use Rattle.aol_csyn.proofs.laws.programs_have_one_text.Goals as goal

pub returns : goal.returns
returns c = one_program
