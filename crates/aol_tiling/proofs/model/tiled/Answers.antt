use Rattle.std.proofs.Common.{Some, refl, ap, sym, ◌∙◌}
use Rattle.aol_model_types.specs.Rules.{task_named}
use Rattle.aol_model_types.specs.declared.task.Task.TheVariants as tasks
use Rattle.aol_flat.proofs.Find.{found_name}
use Rattle.aol_tiling.proofs.Sound.{step_sound}
use Rattle.aol_tiling.proofs.model.tiled.Goals as goal

pub tiled_repeated-requires-clause-found : goal.tiled_repeated-requires-clause-found
tiled_repeated-requires-clause-found c = found_name c.args.model.now c.args.name.now (tasks.Repeated c.in-Some-Repeated.task)
    (ap (λ ts. task_named ts c.args.name.now) (sym c.as_slice.ensures) ∙ (sym c.in-Some-Repeated.ensures ∙ ap (λ t. Some t) c.in-Some-Repeated.field-0-is))

pub returns-in-Ok-clause-sound : goal.returns-in-Ok-clause-sound
returns-in-Ok-clause-sound c =
    step_sound c.args.model.now c.in-Some-Repeated.task c.args.outer.now c.args.block.now c.in-Ok.model c.requires.sound
    (found_name c.args.model.now c.args.name.now (tasks.Repeated c.in-Some-Repeated.task)
    (ap (λ ts. task_named ts c.args.name.now) (sym c.as_slice.ensures) ∙ (sym c.in-Some-Repeated.ensures ∙ ap (λ t. Some t) c.in-Some-Repeated.field-0-is)))
    (c.if-not-is_empty.ensures.0 refl) (sym c.if-not-have_rank.ensures) c.as_slice-outer.ensures.limits c.as_slice-block.ensures.limits c.in-Ok.ensures.count c.in-Ok.ensures.step
