-- That bytes decide the reply.
use Rattle.std.specs.Prelude.{◌≡◌, ℕ, List}
use Rattle.aol_program.specs.declared.words.Command.{Command}
use Rattle.aol_program.specs.Words.{IsDetermined}
use Rattle.aol_lines.specs.Reply.{ReplyOf}
use Rattle.aol_program.specs.Answer.{Answers}

-- to a determined command there is no second reply for the same bytes, so each status comes exactly where its cause holds
abbrev pub OneReply : Type 0
OneReply = (bytes : List ℕ) (c : Command) → IsDetermined c → (r q : ReplyOf) → Answers bytes c r → Answers bytes c q → r ≡ q
