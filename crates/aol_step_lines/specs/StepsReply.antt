-- What is answered for a list of steps of which one isn't kept.
use Rattle.std.specs.Prelude.{◌≡◌, ◌≢◌, ℕ, List, [], ◌∷◌, ◌++◌, length, Option, Some, None, codes, decimal}
use Rattle.aol_model_types.specs.declared.document.Model.{Model}
use Rattle.aol_model_types.specs.declared.job.Step.{Step}
use Rattle.aol_flat.specs.Keep.{EndsAt, IsFirstLost}
use Rattle.aol_flat.specs.Reads.{Reading}
use Rattle.aol_flat.specs.Targets.{Twice, first_twice, IsSingleAssignment}
use Rattle.aol_flat.specs.declared.view.End.{End}
use Rattle.aol_change.specs.Change.{Refused}
use Rattle.aol_change.specs.declared.refused.StepRefused.{StepRefused}
use Rattle.aol_change.specs.declared.refused.StepRefused.TheVariants as refusing
use Rattle.aol_transform.specs.Steps.{proposed, IsProposed, IsStepMap, StepsTo}
use Rattle.aol_lines.specs.declared.status.StatusKind.TheVariants.{Transform, Unbuilt}
use Rattle.aol_lines.specs.Refused.{reading_words, twice_words}
use Rattle.aol_lines.specs.Reply.{ReplyOf, refusal}
use Rattle.aol_step_lines.specs.Words.{why_words, end_words}

-- the first read of the new model that isn't kept, and the one end that it had to have
pub record IsLost (m next : Model) (old_of : List ℕ) (r : Reading) (required : End) : Type 0 where
  pub first : IsFirstLost m next old_of r required
  pub only : (e : End) → EndsAt m first.old_element e → e ≡ required

-- the step with this number isn't kept: its kind isn't built; or it makes no model; or its model writes a point twice; or a read of its model doesn't end where it did
pub data StepReply (m : Model) (number : ℕ) (s : Step) : ReplyOf → Type 0 where
  unbuilt : proposed m s ≡ None → StepReply m number s (refusal Unbuilt [])
  no_model : (why : StepRefused) → proposed m s ≡ Some (Refused why) → why ≢ refusing.NoMemory → StepReply m number s (refusal Transform (decimal number ∷ why_words why))
  written_twice : (next : Model) → IsProposed m s next → (t : Twice) → first_twice next ≡ Some t → StepReply m number s (refusal Transform (decimal number ∷ codes "twice" ∷ twice_words next t))
  lost : (next : Model) → IsProposed m s next → IsSingleAssignment next → (old_of : List ℕ) → IsStepMap m s next old_of → (r : Reading) (required : End) → IsLost m next old_of r required
      → StepReply m number s (refusal Transform (decimal number ∷ codes "lost" ∷ (reading_words next r.reader r.port r.rank ++ codes "needs" ∷ end_words m required)))

-- the steps before it are kept, and this is told of the first that isn't, counted from 0
pub record StepsReply (m : Model) (steps : List Step) (r : ReplyOf) : Type 0 where
  pub before : List Step
  pub step : Step
  pub after : List Step
  pub list : steps ≡ before ++ step ∷ after
  pub made : Model
  pub kept : StepsTo m before made
  pub told : StepReply made (length before) step r
