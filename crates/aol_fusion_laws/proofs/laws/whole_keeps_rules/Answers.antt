use Rattle.aol_fusion_laws.proofs.RulesKept.{whole_keeps_rules}
use Rattle.aol_fusion_laws.proofs.laws.whole_keeps_rules.Goals as goal

pub returns : goal.returns
returns c = whole_keeps_rules
