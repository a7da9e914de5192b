-- A status with the text that belongs to it, and how the text reaches the sink.
use Rattle.std.specs.Prelude.{◌≡◌, ℕ, List, ◌∷◌, Option, ◌⊎◌, string_bytes}
use Rattle.std.specs.Io.KnownBytes.{Appends}
use Rattle.aol_shape.specs.Lines.{line, spaced}
use Rattle.aol_io.specs.Causes.{Rose}
use Rattle.aol_io.specs.Streams.{TookPrefix}
use Rattle.aol_lines.specs.declared.reply.Reply.{Reply}
use Rattle.aol_lines.specs.declared.status.StatusKind.{StatusKind}
use Rattle.aol_lines.specs.declared.status.StatusKind.TheVariants.{Sink}
use Rattle.aol_lines.specs.Status.{code_of, word_of}

-- a status and the text that is written with it
pub record ReplyOf : Type 0 where
  pub status : StatusKind
  pub text : List ℕ

abbrev pub reply : StatusKind → List ℕ → ReplyOf
reply status text = record { status = status; text = text }

-- the status with one line: its word and then these words
abbrev pub refusal : StatusKind → List (List ℕ) → ReplyOf
refusal status words = reply status (line (spaced (word_of status ∷ words)))

-- the reply that the program holds
abbrev pub reply_of : Reply → ReplyOf
reply_of r = reply r.status (string_bytes r.text)

-- the sink before and after a call: what it took, where it tells it, and its count of faults
pub record SinkEnds : Type 0 where
  pub before : Option (List ℕ)
  pub after : Option (List ℕ)
  pub faults_before : ℕ
  pub faults_after : ℕ

-- the call ended with the reply's status and the sink took exactly its text; or the sink failed, took a front of the text, and the status says so
abbrev pub Wrote : SinkEnds → ReplyOf → ℕ → Type 0
Wrote k r code = ((code ≡ code_of r.status) × Appends k.before k.after r.text)
    ⊎ ((code ≡ code_of Sink) × Rose k.faults_before k.faults_after × TookPrefix k.before k.after r.text)
