-- What is answered for a document whose model is accepted.
use Rattle.std.specs.Prelude.{◌≡◌, ℕ, List, [], ◌∷◌, length, decimal, Some, None}
use Rattle.serde_json.specs.Written.{compact_text}
use Rattle.aol_shape.specs.Lines.{line}
use Rattle.aol_model_types.specs.declared.document.Document.{Document}
use Rattle.aol_model_types.specs.declared.document.Model.{Model}
use Rattle.aol_model_types.specs.declared.job.Job.{Job}
use Rattle.aol_model_types.specs.Writing.{document_tree}
use Rattle.aol_flat.specs.Instance.{instances}
use Rattle.aol_flat.specs.InstanceNeed.{AreLevelsOf, level_count}
use Rattle.aol_allocate.specs.declared.cause.PlaceCause.{PlaceCause}
use Rattle.aol_allocate.specs.Placement.{first_cause, workers_of}
use Rattle.aol_transform.specs.Steps.{StepsTo}
use Rattle.aol_lines.specs.declared.status.StatusKind.TheVariants.{Done, Input, Allocate}
use Rattle.aol_lines.specs.Reply.{ReplyOf, reply, refusal}
use Rattle.aol_step_lines.specs.StepsReply.{StepsReply}
use Rattle.aol_program.specs.declared.words.Command.{Command}
use Rattle.aol_program.specs.declared.words.Command.TheVariants.{Check, Print, Transform, Run, Place, Exec}
use Rattle.aol_program.specs.Checked.{accepted_line, cause_words}
use Rattle.aol_program.specs.Inputs.{first_wrong_input}
use Rattle.aol_program.specs.Placed.{place_lines}
use Rattle.aol_program.specs.Run.{IsRunReply}

-- ---- transforming

-- all steps are kept, and make this model
abbrev pub IsMade : Document → Model → Type 0
IsMade d last = StepsTo d.model d.job.transform last

-- a step isn't kept
abbrev pub IsNotMade : Document → ReplyOf → Type 0
IsNotMade d r = StepsReply d.model d.job.transform r

-- the job with no steps left
abbrev pub without_steps : Job → Job
without_steps j = record { input = j.input; transform = []; allocate = j.allocate }

-- a step isn't kept; or the document of the model that they make
pub data TransformAnswers (d : Document) : ReplyOf → Type 0 where
  not_made : (r : ReplyOf) → IsNotMade d r → TransformAnswers d r
  made : (last : Model) → IsMade d last → TransformAnswers d (reply Done (line (compact_text (document_tree last (without_steps d.job)))))

-- ---- placing

-- the steps make this model, and each entry places the instances of a leaf of it
pub record IsPlaceable (d : Document) (last : Model) : Type 0 where
  pub made : IsMade d last
  pub no_cause : first_cause last d.job.allocate ≡ None

-- a step isn't kept; or else an entry places nothing
pub data IsUnplaced (d : Document) : ReplyOf → Type 0 where
  by_step : (r : ReplyOf) → IsNotMade d r → IsUnplaced d r
  by_entry : (last : Model) → IsMade d last → (entry : ℕ) (cause : PlaceCause) → first_cause last d.job.allocate ≡ Some (entry, cause) → IsUnplaced d (refusal Allocate (decimal entry ∷ cause_words cause))

-- a placement by so many workers: it isn't placed; or the worker of each instance
pub data PlaceAnswers (d : Document) (n : ℕ) : ReplyOf → Type 0 where
  unplaced : (r : ReplyOf) → IsUnplaced d r → PlaceAnswers d n r
  placed : (last : Model) → IsPlaceable d last → PlaceAnswers d n (reply Done (place_lines last (workers_of last d.job.allocate n)))

-- ---- a run

-- an input is wrong; or it isn't placed; or what every solution of the document's own model prints, whatever the steps and however many workers there are
pub data RunAnswers (d : Document) : ReplyOf → Type 0 where
  wrong_input : (name cause : List ℕ) → first_wrong_input d.model d.job.input ≡ Some (name, cause) → RunAnswers d (refusal Input (name ∷ cause ∷ []))
  not_placed : first_wrong_input d.model d.job.input ≡ None → (r : ReplyOf) → IsUnplaced d r → RunAnswers d r
  run : first_wrong_input d.model d.job.input ≡ None → (last : Model) → IsPlaceable d last → (r : ReplyOf) → IsRunReply d.model d.job.input r → RunAnswers d r

-- ---- each command

-- how many instances and levels there are
pub record IsCheckReply (d : Document) (r : ReplyOf) : Type 0 where
  pub level : List ℕ
  pub levels : AreLevelsOf d.model level
  pub is : r ≡ reply Done (accepted_line (length (instances d.model)) (level_count level))

-- the reply to a command; one that is about no document has none
abbrev pub AcceptedAnswers : Command → Document → ReplyOf → Type 0
AcceptedAnswers Check d r = IsCheckReply d r
AcceptedAnswers Print d r = r ≡ reply Done (line (compact_text (document_tree d.model d.job)))
AcceptedAnswers Transform d r = TransformAnswers d r
AcceptedAnswers (Run n) d r = RunAnswers d r
AcceptedAnswers (Place n) d r = PlaceAnswers d n r
AcceptedAnswers Exec d r = ⊥
