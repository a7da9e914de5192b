-- What the code's results say.
use Rattle.std.specs.Prelude.{◌≡◌, String, string_bytes, Result, Ok, Err}
use Rattle.std.specs.Borrow.{Bor}
use Rattle.std.specs.declared.alloc.Global.{Global}
use Rattle.serde_json.specs.Data.{Data}
use Rattle.serde_json.specs.View.{view}
use Rattle.serde_json.specs.declared.value.Value.{Value}
use Rattle.aol_model_types.specs.Reading.{Fault, grammar}
use Rattle.aol_csyn.specs.Stored.{program_of}
use Rattle.aol_cread.specs.declared.read.ReadCRefused.{ReadCRefused}
use Rattle.aol_cread.specs.declared.read.ReadCRefused.TheVariants as texts
use Rattle.aol_exec.specs.declared.job.ExecJob.{ExecJob}
use Rattle.aol_exec.specs.declared.job.JobRefused.{JobRefused}
use Rattle.aol_exec.specs.declared.job.JobRefused.TheVariants.{Grammar, Limit, LongMemory, Stuck, NoMemory}
use Rattle.aol_exec.specs.Job.{Job, IsWrongAt, line_place}
use Rattle.aol_exec.specs.Answer.{Answer, wrong, past, long_memory, stuck, ended}

-- the job that is held
abbrev pub job_of : ExecJob → Job
job_of j = record { program = program_of j.program; memory = j.memory; order = j.order }

-- what holds of the answer that a refusal stands for; want of memory stands for none
abbrev pub IfCause : JobRefused → (Answer → Type 0) → Type 0
IfCause (Grammar place) P = P (wrong place)
IfCause (Limit place passed) P = P (past place passed)
IfCause LongMemory P = P long_memory
IfCause (Stuck level worker) P = P (stuck level worker)
IfCause NoMemory P = Unit {0}

-- what holds of the answer that a result stands for
abbrev pub IfAnswered : Result (String Global) JobRefused → (Answer → Type 0) → Type 0
IfAnswered (Ok text) P = P (ended (string_bytes text))
IfAnswered (Err e) P = IfCause e P

-- the answer to a tree that asks for no job
abbrev pub IsNoJob : Data → Answer → Type 0
IsNoJob d (wrong place) = IsWrongAt d place
IsNoJob d _ = ⊥

-- a refusal is this fault of a form, or want of memory
abbrev pub Faults : {A : Type 0} → JobRefused → Result A Fault → Type 0
Faults (Grammar place) read = read ≡ Err (grammar place)
Faults (Limit place passed) read = ⊥
Faults LongMemory read = ⊥
Faults (Stuck level worker) read = ⊥
Faults NoMemory read = Unit {0}

-- what is had is what reading gives, unless memory ran out
abbrev pub Gives : {A : Type 0} → Result A JobRefused → Result A Fault → Type 0
Gives (Ok x) read = read ≡ Ok x
Gives (Err e) read = Faults e read

-- something that is lent
abbrev pub lent : {A : Type 0} → Result (Bor A) JobRefused → Result A JobRefused
lent (Ok b) = Ok b.now
lent (Err e) = Err e

-- a tree that is lent
abbrev pub lent_view : Result (Bor Value) JobRefused → Result Data JobRefused
lent_view (Ok b) = Ok (view b.now)
lent_view (Err e) = Err e

-- the refusal of a program's text
abbrev pub text_refusal : ReadCRefused → JobRefused
text_refusal (texts.At line) = Grammar (line_place line)
text_refusal texts.NoMemory = NoMemory
