use Rattle.aol_fusion_laws.proofs.RulesKept.{once_keeps_rules}
use Rattle.aol_fusion_laws.proofs.laws.once_keeps_rules.Goals as goal

pub returns : goal.returns
returns c = once_keeps_rules
