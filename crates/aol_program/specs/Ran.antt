-- What a call hands back beside its status.
use Rattle.std.specs.Prelude.{◌≡◌, ◌⊎◌, ℕ, List, Option, Some, None}
use Rattle.aol_model_types.specs.declared.document.Document.{Document}
use Rattle.aol_flat.specs.Accept.{IsFlat}
use Rattle.aol_flat.specs.Tasks.{main_inputs}
use Rattle.aol_allocate.specs.Placement.{workers_of}
use Rattle.aol_runner.specs.Run.{IsRunField}
use Rattle.aol_transform.specs.Steps.{StepsTo}
use Rattle.aol_program.specs.declared.status.Ran.{Ran}
use Rattle.aol_lines.specs.declared.status.StatusKind.TheVariants.{Done, Fault}
use Rattle.aol_program.specs.declared.words.Command.{Command}
use Rattle.aol_program.specs.declared.words.Command.TheVariants.{Run}
use Rattle.aol_program.specs.Inputs.{given_arrays}
use Rattle.aol_lines.specs.Status.{code_of}

-- the model is the one that the document's steps make, placed by its entries on so many workers, and the memory is that of its run over the document's inputs
pub record IsRan (d : Document) (workers : ℕ) (ran : Ran) : Type 0 where
  pub laid : IsFlat ran.flat
  pub made : StepsTo d.model d.job.transform ran.flat.model
  pub on_workers : ran.placed.workers ≡ workers
  pub placed : ran.placed.of_instance ≡ workers_of ran.flat.model d.job.allocate workers
  pub memory : IsRunField ran.flat ran.placed.of_instance (given_arrays d.job.input (main_inputs d.model)) ran.memory

-- the codes with which a call ends whose run came to its end
abbrev pub IsRunCode : ℕ → Type 0
IsRunCode code = (code ≡ code_of Done) ⊎ (code ≡ code_of Fault)

-- what ran, exactly where the command is `run n` and the code is one of these; the document is one of which this holds
abbrev pub HasRan : Command → (Document → Type 0) → ℕ → Option Ran → Type 0
HasRan (Run n) P code (Some ran) = IsRunCode code × (d : Document) × P d × IsRan d n ran
HasRan (Run n) P code None = ¬ IsRunCode code
HasRan c P code ran = ran ≡ None
