-- What the functions inside make of the steps and the entries of a document.
use Rattle.std.specs.Prelude.{◌≡◌, ℕ, List, ◌∷◌, decimal, Some, None, Result, Ok, Err}
use Rattle.aol_model_types.specs.declared.document.Model.{Model}
use Rattle.aol_model_types.specs.declared.job.Entry.{Entry}
use Rattle.aol_model_types.specs.declared.job.Job.{Job}
use Rattle.aol_model_types.specs.declared.job.Step.{Step}
use Rattle.aol_flat.specs.Accept.{IsFlat}
use Rattle.aol_flat.specs.InstanceNeed.{AreLevelsOf}
use Rattle.aol_flat.specs.Keep.{KeepsOutputs}
use Rattle.aol_flat.specs.Level.{AreWriters}
use Rattle.aol_flat.specs.Tasks.{main_inputs}
use Rattle.aol_allocate.specs.declared.cause.PlaceCause.{PlaceCause}
use Rattle.aol_allocate.specs.Placement.{IsPlacement, first_cause, workers_of}
use Rattle.aol_allocate.specs.Workers.{InstanceWorkers}
use Rattle.aol_runner.specs.Run.{IsRunField}
use Rattle.aol_transform.specs.declared.steps.Transformed.{Transformed}
use Rattle.aol_transform.specs.Steps.{StepsTo}
use Rattle.aol_lines.specs.declared.reply.Reply.{Reply}
use Rattle.aol_lines.specs.declared.status.StatusKind.TheVariants.{Done, Allocate}
use Rattle.aol_lines.specs.Reply.{ReplyOf, reply, refusal, reply_of}
use Rattle.aol_step_lines.specs.StepsReply.{StepsReply}
use Rattle.aol_program.specs.declared.accepted.Finished.{Finished}
use Rattle.aol_program.specs.declared.made.Made.{Made}
use Rattle.aol_program.specs.Checked.{cause_words}
use Rattle.aol_program.specs.Inputs.{given_arrays}
use Rattle.aol_program.specs.Placed.{place_lines}
use Rattle.aol_program.specs.Run.{IsRunReply}

-- steps that are kept make this model, with the writer of each cell
pub record AreTaken (m : Model) (steps : List Step) (t : Transformed) : Type 0 where
  pub made : StepsTo m steps t.flat.model
  pub keeps : KeepsOutputs m t.flat.model
  pub writers : AreWriters t.flat t.writers

-- the model that the steps make; or the reply where one isn't kept
abbrev pub IsTransformed : Model → List Step → Result Transformed Reply → Type 0
IsTransformed m steps (Ok t) = AreTaken m steps t
IsTransformed m steps (Err r) = StepsReply m steps (reply_of r)

-- steps that are kept make this model, with the level of each instance
pub record IsLevelled (m : Model) (steps : List Step) (t : Made) : Type 0 where
  pub made : StepsTo m steps t.flat.model
  pub keeps : KeepsOutputs m t.flat.model
  pub levels : AreLevelsOf t.flat.model t.levels

-- the model that the steps make; or the reply where one isn't kept
abbrev pub IsMadeOf : Model → List Step → Result Made Reply → Type 0
IsMadeOf m steps (Ok t) = IsLevelled m steps t
IsMadeOf m steps (Err r) = StepsReply m steps (reply_of r)

-- the workers of a model's instances by the entries
pub record ArePlaced (m : Model) (entries : List Entry) (n : ℕ) (placed : InstanceWorkers) : Type 0 where
  pub no_cause : first_cause m entries ≡ None
  pub workers : placed.workers ≡ n
  pub of_instance : placed.of_instance ≡ workers_of m entries n
  pub placement : IsPlacement m placed.of_instance placed.workers

-- the reply to the first entry that places nothing
pub record IsEntryReply (m : Model) (entries : List Entry) (r : ReplyOf) : Type 0 where
  pub entry : ℕ
  pub cause : PlaceCause
  pub first : first_cause m entries ≡ Some (entry, cause)
  pub is : r ≡ refusal Allocate (decimal entry ∷ cause_words cause)

-- the workers of the instances, or the reply where an entry places nothing
abbrev pub IsPlacedFor : Model → List Entry → ℕ → Result InstanceWorkers Reply → Type 0
IsPlacedFor m entries n (Ok placed) = ArePlaced m entries n placed
IsPlacedFor m entries n (Err r) = IsEntryReply m entries (reply_of r)

-- the reply to a placement: the worker of each instance, or that an entry places nothing
pub data IsPlaceReply (m : Model) (entries : List Entry) (n : ℕ) : ReplyOf → Type 0 where
  by_entry : (r : ReplyOf) → IsEntryReply m entries r → IsPlaceReply m entries n r
  lines : first_cause m entries ≡ None → IsPlaceReply m entries n (reply Done (place_lines m (workers_of m entries n)))

-- a run of a model on so many workers: what it prints, where each instance ran, and the memory at its end
pub record IsRunOf (m : Model) (j : Job) (n : ℕ) (f : Finished) : Type 0 where
  pub prints : IsRunReply m j.input (reply_of f.reply)
  pub laid : IsFlat f.ran.flat
  pub of_model : f.ran.flat.model ≡ m
  pub placed : ArePlaced m j.allocate n f.ran.placed
  pub memory : IsRunField f.ran.flat f.ran.placed.of_instance (given_arrays j.input (main_inputs m)) f.ran.memory

-- a run; or the reply where an entry places nothing
abbrev pub IsRunFor : Model → Job → ℕ → Result Finished Reply → Type 0
IsRunFor m j n (Ok f) = IsRunOf m j n f
IsRunFor m j n (Err r) = IsEntryReply m j.allocate (reply_of r)
