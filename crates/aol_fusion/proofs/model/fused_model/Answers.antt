use Rattle.std.proofs.Common.{List, sym, ◌∙◌, ap, subst}
use Rattle.std.specs.List.{AllByRecursion, list_all}
use Rattle.aol_model_types.specs.declared.job.Pick.{Pick}
use Rattle.aol_model_types.specs.Types.{IsPick}
use Rattle.aol_fusion_rules.specs.Sound.{is_countable}
use Rattle.aol_fusion_rules.proofs.Sound.{fused_is_sound}
use Rattle.aol_fusion.proofs.model.fused_model.Goals as goal

pub returns-else-not-are_countable-clause-sound : goal.returns-else-not-are_countable-clause-sound
returns-else-not-are_countable-clause-sound c =
    fused_is_sound c.args.model.now c.in-Ok.next c.args.name.now c.args.args.now c.requires.sound c.as_slice-entries.ensures.limits
    (subst (λ (ps : List Pick). AllByRecursion IsPick ps) c.as_slice.ensures c.picks_are_within.ensures) c.in-Ok.ensures.count
    (ap (list_all is_countable) (sym c.as_slice-in-Ok.ensures) ∙ sym c.if-not-are_countable.ensures) c.in-Ok.ensures.step
