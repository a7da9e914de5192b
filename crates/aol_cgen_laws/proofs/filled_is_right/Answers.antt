use Rattle.aol_cgen_laws.proofs.Filled.{filled_is_right}
use Rattle.aol_cgen_laws.proofs.filled_is_right.Goals as goal

pub returns : goal.returns
returns c = filled_is_right
