-- What a run leaves inside the program.
use Rattle.std.specs.Prelude.{◌≡◌, ℕ, Result, Ok, Err, Some, None}
use Rattle.aol_shape.specs.declared.memory.NoMemory.{NoMemory}
use Rattle.aol_program.specs.declared.accepted.Finished.{Finished}
use Rattle.aol_program.specs.declared.accepting.Accepted.{Accepted}
use Rattle.aol_program.specs.declared.reply.Answer.{Answer}
use Rattle.aol_lines.specs.declared.reply.Reply.{Reply}
use Rattle.aol_program.specs.Accept.{document_with}
use Rattle.aol_program.specs.AcceptedAnswer.{RunAnswers}
use Rattle.aol_program.specs.Ran.{IsRan, IsRunCode}
use Rattle.aol_lines.specs.Reply.{reply_of}
use Rattle.aol_lines.specs.Status.{code_of}

-- the reply and what ran; or a refusal
abbrev pub IsFinished : Accepted → ℕ → Result Finished Reply → Type 0
IsFinished a n (Ok f) =
    RunAnswers (document_with a.flat a.job) (reply_of f.reply) × IsRunCode (code_of f.reply.status)
    × IsRan (document_with a.flat a.job) n f.ran
IsFinished a n (Err r) = RunAnswers (document_with a.flat a.job) (reply_of r) × ¬ IsRunCode (code_of r.status)

-- a reply with nothing that ran
abbrev pub IsAlone : Result Reply NoMemory → Result Answer NoMemory → Type 0
IsAlone (Ok r) (Ok a) = (r ≡ a.reply) × (a.ran ≡ None)
IsAlone (Ok r) (Err e) = ⊥
IsAlone (Err e) (Ok a) = ⊥
IsAlone (Err e) (Err f) = Unit {0}
