use Rattle.aol_cgen_laws.proofs.Whole.{emitted_is_right}
use Rattle.aol_cgen_laws.proofs.emitted_is_right.Goals as goal

pub returns : goal.returns
returns c = emitted_is_right
