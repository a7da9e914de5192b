use Rattle.aol_fusion_parts.proofs.Kept.{fused_keeps_tasks}
use Rattle.aol_fusion_parts.proofs.laws.fused_keeps_tasks.Goals as goal

pub returns : goal.returns
returns c = fused_keeps_tasks
