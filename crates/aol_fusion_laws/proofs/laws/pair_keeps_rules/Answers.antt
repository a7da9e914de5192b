use Rattle.aol_fusion_laws.proofs.PairKept.{pair_keeps_rules}
use Rattle.aol_fusion_laws.proofs.laws.pair_keeps_rules.Goals as goal

pub returns : goal.returns
returns c = pair_keeps_rules
