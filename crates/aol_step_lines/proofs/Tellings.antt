-- From the cause of a step that isn't kept to what is told of it.
use Rattle.std.proofs.Common.{◌≡◌, ◌≢◌, ℕ, List, [], ◌∷◌, ◌++◌, length, Option, Some, codes, decimal, Result, Ok, Err, sym, ap, subst, refl}
use Rattle.std.specs.Prelude.{IfOk}
use Rattle.aol_shape.specs.declared.memory.NoMemory.{NoMemory}
use Rattle.aol_model_types.specs.declared.document.Model.{Model}
use Rattle.aol_model_types.specs.declared.job.Step.{Step}
use Rattle.aol_flat.specs.Keep.{EndsAt}
use Rattle.aol_flat.specs.Laid.{Laid}
use Rattle.aol_flat.specs.Place.{Element}
use Rattle.aol_flat.specs.Targets.{Twice, first_twice}
use Rattle.aol_flat.specs.declared.view.End.{End}
use Rattle.aol_flat.specs.declared.view.Reader.{Reader}
use Rattle.aol_flat.specs.declared.view.Writer.{Writer}
use Rattle.aol_assign.specs.Answers.{IsTwiceTold}
use Rattle.aol_assign.specs.declared.refused.AssignRefused.{AssignRefused}
use Rattle.aol_assign.specs.declared.refused.AssignRefused.TheVariants as assigning
use Rattle.aol_change.specs.declared.refused.StepRefused.{StepRefused}
use Rattle.aol_equiv.specs.Answers.{LostIs}
use Rattle.aol_equiv.specs.declared.lost.Lost.{Lost}
use Rattle.aol_equiv.specs.declared.lost.Lost.TheVariants as losing
use Rattle.aol_transform.specs.declared.cause.StepCause.{StepCause}
use Rattle.aol_transform.specs.declared.cause.StepCause.TheVariants as causes
use Rattle.aol_transform.specs.declared.cause.StepsRefused.{StepsRefused}
use Rattle.aol_transform.specs.Steps.{IsCause, IsFirstCause}
use Rattle.aol_lines.specs.declared.reply.Reply.{Reply}
use Rattle.aol_lines.specs.declared.status.StatusKind.TheVariants.{Transform, Unbuilt}
use Rattle.aol_lines.specs.Refused.{IsReadBy, reading_words, twice_words}
use Rattle.aol_lines.specs.Reply.{ReplyOf, reply_of, refusal}
use Rattle.aol_step_lines.specs.StepsReply.{IsLost, StepReply, unbuilt, no_model, written_twice, lost, StepsReply}
use Rattle.aol_step_lines.specs.Told.{told_words, IsReplyOf}
use Rattle.aol_step_lines.specs.Words.{why_words, end_words}

-- what is told of the cause, whatever the model and the step
abbrev pub TellsCause : StepCause → ℕ → ReplyOf → Type 0
TellsCause cause number r = (m : Model) (s : Step) → IsCause m s cause → StepReply m number s r

-- so it is the reply to the steps
pub of_cause : (e : StepsRefused) (r : ReplyOf) → TellsCause e.cause e.step r → IsReplyOf e r
of_cause e r tells m steps first =
    record {
      before = first.before;
      step = first.step;
      after = first.after;
      list = first.list;
      made = first.made;
      kept = first.kept;
      told = subst (λ n. StepReply first.made n first.step r) first.many (tells first.made first.step first.is_cause);
    }

-- the cause is one of a step
pub cause_told : (e : StepsRefused) (cause : StepCause) → e.cause ≡ cause → (m : Model) (steps : List Step) (first : IsFirstCause m steps e.step e.cause) → IsCause first.made first.step cause
cause_told e cause is m steps first = subst (IsCause first.made first.step) is first.is_cause

-- where the reply that is made is this one
pub made_so : (e : StepsRefused) (cause : StepCause) (made : Result Reply NoMemory) (q : ReplyOf) → e.cause ≡ cause → IfOk made (λ x. reply_of x ≡ q) → TellsCause cause e.step q → IfOk made (λ x. IsReplyOf e (reply_of x))
made_so e cause (Ok x) q is same tells = subst (IsReplyOf e) (sym same) (of_cause e q (subst (λ c. TellsCause c e.step q) (sym is) tells))
made_so e cause (Err x) q is same tells = same

-- ---- each cause

pub unbuilt_told : (number : ℕ) → TellsCause causes.Unbuilt number (refusal Unbuilt [])
unbuilt_told number m s h = unbuilt h

pub no_model_told : (number : ℕ) (why : StepRefused) → TellsCause (causes.NoResult why) number (refusal Transform (decimal number ∷ why_words why))
no_model_told number why m s h = no_model why h.0 h.1

-- the words of a point that is written twice
pub twice_words_told : (m : Model) (e : AssignRefused) → IsTwiceTold m e → e ≢ assigning.NoMemory → (t : Twice) × (first_twice m ≡ Some t) × (told_words e ≡ twice_words m t)
twice_words_told m (assigning.Twice path part port point first second) h some =
    (h.twice, h.is_first, (rw (h.same_path, h.same_part, h.same_port, h.same_point, h.same_first, h.same_second) refl))
twice_words_told m (assigning.Unwritten reader port point) h some = absurd h
twice_words_told m assigning.NoMemory h some = absurd (some refl)

pub twice_told : (number : ℕ) (next : Laid) (e : AssignRefused) → TellsCause (causes.Twice next e) number (refusal Transform (decimal number ∷ codes "twice" ∷ told_words e))
twice_told number next e m s h =
    let t = twice_words_told next.model e h.1 h.2 in
    subst (λ ws. StepReply m number s (refusal Transform (decimal number ∷ codes "twice" ∷ ws))) (sym t.2) (written_twice next.model h.0 t.0 t.1)

-- a lost read is read, and has an end in the old model
pub lost_read : (m next : Model) (old_of : List ℕ) (reader : Reader) (port point : ℕ) (required : End) → LostIs m next old_of reader port point required → IsReadBy next reader port point
lost_read m next old_of reader port point required l =
    record { reading = l.reading; number = l.is_first.first.number; at = l.is_first.first.at; reader = sym l.same_reader; same_port = sym l.same_port; same_rank = sym l.same_point }

pub lost_end : (m next : Model) (old_of : List ℕ) (reader : Reader) (port point : ℕ) (required : End) → LostIs m next old_of reader port point required → (p : Element) × EndsAt m p required
lost_end m next old_of reader port point required l = (l.is_first.old_element, l.is_first.ends)

pub lost_told : (number : ℕ) (old next : Laid) (reader : Reader) (port point : ℕ) (required : End) → TellsCause (causes.Lost old next (losing.Element reader port point required)) number
    (refusal Transform (decimal number ∷ codes "lost" ∷ (reading_words next.model reader port point ++ codes "needs" ∷ end_words old.model required)))
lost_told number old next reader port point required m s h =
    let l = h.3.2 in
    let words : reading_words next.model reader port point ++ codes "needs" ∷ end_words old.model required
    ≡ reading_words next.model l.reading.reader l.reading.port l.reading.rank ++ codes "needs" ∷ end_words m required =
    rw (l.same_reader, l.same_port, l.same_point, h.0) refl in
    subst (λ ws. StepReply m number s (refusal Transform (decimal number ∷ codes "lost" ∷ ws))) (sym words)
    (lost next.model h.1 h.2 h.3.0 h.3.1 l.reading required (record { first = l.is_first; only = l.only }))
