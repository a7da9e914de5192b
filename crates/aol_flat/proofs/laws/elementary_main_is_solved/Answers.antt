use Rattle.aol_flat.proofs.ElementaryMain.{elementary_main_is_solved}
use Rattle.aol_flat.proofs.laws.elementary_main_is_solved.Goals as goal

pub returns : goal.returns
returns c = elementary_main_is_solved
