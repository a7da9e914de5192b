-- How a call of the program ends.
use Rattle.std.specs.Prelude.{◌≡◌, ℕ, ◌≤◌, List, [], length, Option, Some, None}
use Rattle.std.specs.Io.KnownBytes.{Keeps}
use Rattle.aol_io.specs.Causes.{Rose}
use Rattle.aol_io.specs.Streams.{WasAll, WasLong, TookAtMost}
use Rattle.aol_program.specs.declared.program.TheConstants.{MAX_BYTES}
use Rattle.aol_lines.specs.declared.status.StatusKind.TheVariants.{Words, Read, Memory, Long}
use Rattle.aol_program.specs.declared.status.Ran.{Ran}
use Rattle.aol_program.specs.declared.words.Command.{Command}
use Rattle.aol_lines.specs.Status.{code_of}
use Rattle.aol_program.specs.Words.{Subject, subject_of, ReadsSource, Means, IsNoCommand}
use Rattle.aol_lines.specs.Reply.{ReplyOf, refusal, SinkEnds, Wrote}
use Rattle.aol_program.specs.Accept.{IsDocumentIn}
use Rattle.aol_program.specs.Answer.{Answers}
use Rattle.aol_program.specs.Ran.{HasRan}

-- the source before and after a call: what is left, where it tells it, and its count of faults
pub record SourceEnds : Type 0 where
  pub before : Option (List ℕ)
  pub after : Option (List ℕ)
  pub faults_before : ℕ
  pub faults_after : ℕ

-- the bytes that a command is given: all that the source had, up to the limit; none where it doesn't read the source
abbrev pub IsGiven : Option Subject → Type 0 → SourceEnds → List ℕ → Type 0
IsGiven (Some subject) untouched s bytes = (length bytes ≤ MAX_BYTES) × WasAll s.before s.after bytes
IsGiven None untouched s bytes = untouched × (bytes ≡ [])

-- what it took where the bytes weren't too many: no more than the limit; nothing where it doesn't read the source
abbrev pub IsWithin : Option Subject → Type 0 → SourceEnds → Type 0
IsWithin (Some subject) untouched s = TookAtMost s.before s.after MAX_BYTES
IsWithin None untouched s = untouched

-- one of five: the words are no command and nothing is read; the source failed; too many bytes came; the command is answered for the bytes that it is given; or memory was wanting and nothing was written. What ran is handed back where a run came to its end
pub data IsAnswered (words : List (List ℕ)) (untouched : Type 0) (s : SourceEnds) (k : SinkEnds) (code : ℕ) (ran : Option Ran) : Type 0 where
  no_command : IsNoCommand words → untouched → Wrote k (refusal Words []) code → ran ≡ None → IsAnswered words untouched s k code ran
  read_fault : (c : Command) → Means words c → ReadsSource c → IsWithin (subject_of c) untouched s → Rose s.faults_before s.faults_after → Wrote k (refusal Read []) code → ran ≡ None → IsAnswered words untouched s k code ran
  too_long : (c : Command) → Means words c → ReadsSource c → WasLong s.before s.after MAX_BYTES → Wrote k (refusal Long []) code → ran ≡ None → IsAnswered words untouched s k code ran
  answered : (c : Command) → Means words c → (bytes : List ℕ) → IsGiven (subject_of c) untouched s bytes → (r : ReplyOf) → Answers bytes c r → Wrote k r code → HasRan c (IsDocumentIn bytes) code ran → IsAnswered words untouched s k code ran
  no_memory : (c : Command) → Means words c → IsWithin (subject_of c) untouched s → code ≡ code_of Memory → Keeps k.before k.after → ran ≡ None → IsAnswered words untouched s k code ran
