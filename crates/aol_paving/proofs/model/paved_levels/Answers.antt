use Rattle.std.proofs.Common.{Some, refl, ap, sym, ◌∙◌}
use Rattle.aol_model_types.specs.Rules.{task_named}
use Rattle.aol_paving.proofs.Sound.{step_sound}
use Rattle.aol_paving.proofs.model.paved_levels.Goals as goal

pub returns-in-Ok-clause-sound : goal.returns-in-Ok-clause-sound
returns-in-Ok-clause-sound c =
    step_sound c.args.model.now c.args.task.now c.in-Some-Repeated.inner c.args.args.now.outer c.args.args.now.block c.in-Ok.model c.requires.sound c.requires.found
    (ap (λ ts. task_named ts c.args.task.now.task) (sym c.as_slice.ensures) ∙ (sym c.in-Some-Repeated.ensures ∙ ap (λ t. Some t) c.in-Some-Repeated.field-0-is)) (c.if-not-is_empty.ensures.0 refl)
    (c.if-not-is_empty-2.ensures.0 refl) (sym c.if-not-have_rank.ensures) c.as_slice-outer.ensures.limits c.as_slice-block.ensures.limits c.in-Ok.ensures.count c.in-Ok.ensures.step
