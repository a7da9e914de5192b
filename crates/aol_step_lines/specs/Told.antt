-- What the functions inside tell.
use Rattle.std.specs.Prelude.{ℕ, List, [], ◌∷◌, codes}
use Rattle.aol_vsl.specs.Text.{shape_text}
use Rattle.aol_model_types.specs.declared.document.Model.{Model}
use Rattle.aol_model_types.specs.declared.job.Step.{Step}
use Rattle.aol_assign.specs.declared.refused.AssignRefused.{AssignRefused}
use Rattle.aol_assign.specs.declared.refused.AssignRefused.TheVariants.{Twice, Unwritten, NoMemory}
use Rattle.aol_transform.specs.declared.cause.StepsRefused.{StepsRefused}
use Rattle.aol_transform.specs.Steps.{IsFirstCause}
use Rattle.aol_lines.specs.Refused.{target_text, writer_words}
use Rattle.aol_lines.specs.Reply.{ReplyOf}
use Rattle.aol_step_lines.specs.StepsReply.{StepsReply}

-- the words of a point that is written twice
abbrev pub told_words : AssignRefused → List (List ℕ)
told_words (Twice path part port point first second) = path ∷ target_text part port ∷ shape_text point ∷ codes "first" ∷ writer_words first (codes "second" ∷ writer_words second [])
told_words (Unwritten reader port point) = []
told_words NoMemory = []

-- it is the reply of all steps of which this is the first cause
abbrev pub IsReplyOf : StepsRefused → ReplyOf → Type 0
IsReplyOf e r = (m : Model) (steps : List Step) → IsFirstCause m steps e.step e.cause → StepsReply m steps r
