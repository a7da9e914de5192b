use Rattle.aol_fusion_rules.proofs.Sound.{fused_is_sound}
use Rattle.aol_fusion_rules.proofs.laws.fused_is_sound.Goals as goal

pub returns : goal.returns
returns c = fused_is_sound
