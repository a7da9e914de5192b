use Rattle.std.proofs.Common.{◌≡◌, sym, ◌∙◌, ap, subst, refl}
use Rattle.aol_equiv.specs.declared.lost.Lost.TheVariants as losing
use Rattle.aol_transform.specs.declared.cause.StepCause.TheVariants as causes
use Rattle.aol_step_lines.proofs.Tellings.{made_so, cause_told, unbuilt_told, no_model_told, twice_told, lost_told}
use Rattle.aol_step_lines.proofs.told.step_reply.Goals as goal

pub returns-in-Unbuilt : goal.returns-in-Unbuilt
returns-in-Unbuilt c = made_so c.args.refused.now causes.Unbuilt c.refusal.result _ c.in-Unbuilt.is c.refusal.ensures (unbuilt_told c.args.refused.now.step)

pub returns-in-NoResult : goal.returns-in-NoResult
returns-in-NoResult c = made_so c.args.refused.now (causes.NoResult c.in-NoResult.why) c.no_model_reply.result _ c.in-NoResult.is c.no_model_reply.ensures (no_model_told c.args.refused.now.step c.in-NoResult.why)

pub twice_reply-requires : goal.twice_reply-requires
twice_reply-requires c = let h = cause_told c.args.refused.now (causes.Twice c.in-Twice.field-0 c.in-Twice.told) c.in-Twice.is c.requires.0 c.requires.1 c.requires.2 in (c.in-Twice.field-0.model, h.1)

pub returns-in-Twice : goal.returns-in-Twice
returns-in-Twice c =
    made_so c.args.refused.now (causes.Twice c.in-Twice.field-0 c.in-Twice.told) c.twice_reply.result _ c.in-Twice.is c.twice_reply.ensures (twice_told c.args.refused.now.step c.in-Twice.field-0 c.in-Twice.told)

pub returns-in-Element : goal.returns-in-Element
returns-in-Element c =
    let e = losing.Element c.in-Element.reader c.in-Element.port c.in-Element.point c.in-Element.required in
    made_so c.args.refused.now (causes.Lost c.in-Lost.old c.in-Lost.next e) c.lost_reply.result _ (c.in-Lost.is ∙ ap (causes.Lost c.in-Lost.old c.in-Lost.next) c.in-Element.is) c.lost_reply.ensures
    (lost_told c.args.refused.now.step c.in-Lost.old c.in-Lost.next c.in-Element.reader c.in-Element.port c.in-Element.point c.in-Element.required)
