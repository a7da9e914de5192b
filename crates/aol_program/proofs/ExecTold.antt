-- The reply that tells an answer to `exec`.
use Rattle.std.proofs.Common.{◌≡◌, ℕ, List, Result, Ok, Err, refl}
use Rattle.std.specs.Prelude.{IfOk}
use Rattle.serde_json.specs.Data.{Data}
use Rattle.aol_shape.specs.declared.memory.NoMemory.{NoMemory}
use Rattle.aol_exec.specs.Answer.{wrong, past, long_memory, stuck, ended, Answers}
use Rattle.aol_exec.specs.Results.{IfCause}
use Rattle.aol_exec.specs.declared.job.JobRefused.{JobRefused}
use Rattle.aol_exec.specs.declared.job.JobRefused.TheVariants as refusals
use Rattle.aol_lines.specs.declared.reply.Reply.{Reply}
use Rattle.aol_lines.specs.declared.status.StatusKind.TheVariants.{Done}
use Rattle.aol_program.specs.ExecAnswer.{IsExecReply, IsLineOf}
use Rattle.aol_lines.specs.Reply.{ReplyOf, reply, reply_of}

-- the lines of the final arrays
pub ended_told : (d : Data) (text : List ℕ) → Answers d (ended text) → IsExecReply d (reply Done text)
ended_told d text a = record { answer = ended text; answers = a; told = refl }

-- a line that tells a refusal
line_told : (d : Data) (e : JobRefused) (r : ReplyOf) → IfCause e (Answers d) → IsLineOf e r → IsExecReply d r
line_told d (refusals.Grammar place) r a told = record { answer = wrong place; answers = a; told = told }
line_told d (refusals.Limit place passed) r a told = record { answer = past place passed; answers = a; told = told }
line_told d refusals.LongMemory r a told = record { answer = long_memory; answers = a; told = told }
line_told d (refusals.Stuck level worker) r a told = record { answer = stuck level worker; answers = a; told = told }
line_told d refusals.NoMemory r a told = absurd told

pub refused_told : (d : Data) (e : JobRefused) (r : Result Reply NoMemory) → IfCause e (Answers d) → IfOk r (λ x. IsLineOf e (reply_of x)) → IfOk r (λ x. IsExecReply d (reply_of x))
refused_told d e (Ok x) a told = line_told d e (reply_of x) a told
refused_told d e (Err x) a told = cc
