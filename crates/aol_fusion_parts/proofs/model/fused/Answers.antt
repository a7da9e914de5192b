use Rattle.std.proofs.Common.{Some, ap, sym, ◌∙◌}
use Rattle.aol_model_types.specs.Rules.{task_named}
use Rattle.aol_model_types.specs.declared.task.Task.TheVariants as tasks
use Rattle.aol_flat.proofs.Find.{found_name}
use Rattle.aol_fusion_parts.proofs.model.fused.Goals as goal

pub fused_parts-requires-clause-found : goal.fused_parts-requires-clause-found
fused_parts-requires-clause-found c =
    found_name c.args.model.now c.args.name.now (tasks.Compound c.in-Some-Compound.compound)
    (ap (λ ts. task_named ts c.args.name.now) (sym c.as_slice.ensures) ∙ (sym c.in-Some-Compound.ensures ∙ ap (λ t. Some t) c.in-Some-Compound.field-0-is))
