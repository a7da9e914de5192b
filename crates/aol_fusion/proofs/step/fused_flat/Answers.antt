use Rattle.aol_fusion.proofs.FlatKept.{laid_keeps}
use Rattle.aol_fusion.proofs.step.fused_flat.Goals as goal

pub returns-in-Ok-laid_out-clause-keeps : goal.returns-in-Ok-laid_out-clause-keeps
returns-in-Ok-laid_out-clause-keeps c =
    laid_keeps c.args.old.now.model c.model-model.result.now c.in-Ok.next _ c.args.name.now c.args.args.now c.model-model.ensures.same c.model-model.ensures.flat.sound c.in-Ok.ensures.step
    c.in-Ok-laid_out.ensures.ok.0 c.in-Ok-laid_out.ensures.ok.1
