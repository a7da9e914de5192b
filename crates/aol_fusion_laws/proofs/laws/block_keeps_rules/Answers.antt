use Rattle.aol_fusion_laws.proofs.RulesKept.{block_keeps_rules}
use Rattle.aol_fusion_laws.proofs.laws.block_keeps_rules.Goals as goal

pub returns : goal.returns
returns c = block_keeps_rules
