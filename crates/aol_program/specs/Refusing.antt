-- What is answered for bytes that are refused.
use Rattle.std.specs.Prelude.{ℕ, List}
use Rattle.aol_program.specs.declared.accepting.Refusal.{Refusal}
use Rattle.aol_program.specs.declared.words.Command.{Command}
use Rattle.aol_program.specs.Accept.{IsCause}
use Rattle.aol_program.specs.Answer.{TextAnswers}
use Rattle.aol_program.specs.Ran.{IsRunCode}
use Rattle.aol_lines.specs.Reply.{ReplyOf}
use Rattle.aol_lines.specs.Status.{code_of}

-- the reply to bytes that are refused so, whatever the command; its status isn't that of a run that came to its end
pub record IsReplyTo (e : Refusal) (r : ReplyOf) : Type 0 where
  pub answers : (bytes : List ℕ) (c : Command) → IsCause bytes e → TextAnswers bytes c r
  pub no_run : ¬ IsRunCode (code_of r.status)
