use Rattle.std.proofs.Common.{Some, ap, sym, ◌∙◌}
use Rattle.aol_model_types.specs.Rules.{task_named}
use Rattle.aol_model_types.specs.declared.task.Task.TheVariants as tasks
use Rattle.aol_flat.proofs.Find.{found_name}
use Rattle.aol_paving.proofs.model.paved.Goals as goal

pub paved_levels-requires-clause-found : goal.paved_levels-requires-clause-found
paved_levels-requires-clause-found c = found_name c.args.model.now c.args.name.now (tasks.Repeated c.in-Some-Repeated.task)
    (ap (λ ts. task_named ts c.args.name.now) (sym c.as_slice.ensures) ∙ (sym c.in-Some-Repeated.ensures ∙ ap (λ t. Some t) c.in-Some-Repeated.field-0-is))
