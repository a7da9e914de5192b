use Rattle.std.proofs.Common.{◌≡◌, ℕ, List, Option, sym, subst, rules}
use Rattle.aol_program.specs.declared.words.Command.{Command}
use Rattle.aol_program.specs.Accept.{IsDocumentIn}
use Rattle.aol_program.specs.Answer.{Answers}
use Rattle.aol_program.specs.Answered.{read_fault, too_long, answered, no_memory}
use Rattle.aol_program.specs.Ran.{HasRan}
use Rattle.aol_lines.specs.Reply.{reply_of}
use Rattle.aol_lines.specs.Status.{code_of}
use Rattle.aol_program.proofs.Commands.{reads, within, given-all}
use Rattle.aol_program.proofs.Finishing.{ran_kept}
use Rattle.aol_program.proofs.program.aol.Goals as goal

pub returns-in-Err-ReadFault : goal.returns-in-Err-ReadFault
returns-in-Err-ReadFault g c =
    let command = c.in-Some.command in
    read_fault command c.in-Some.ensures.command (reads command) (within command _ _ (c.in-Err-ReadFault.ensures.not_long (λ e. cc))) (c.in-Err-ReadFault.ensures.fault (search rules))
    c.told-in-Err-ReadFault.ensures.code c.told-in-Err-ReadFault.ensures.ran

pub returns-in-Err-TooLong : goal.returns-in-Err-TooLong
returns-in-Err-TooLong g c =
    let command = c.in-Some.command in
    too_long command c.in-Some.ensures.command (reads command) (c.in-Err-TooLong.ensures.long (search rules)) c.told-in-Err-TooLong.ensures.code c.told-in-Err-TooLong.ensures.ran

pub returns-in-Err-NoMemory : goal.returns-in-Err-NoMemory
returns-in-Err-NoMemory g c =
    let command = c.in-Some.command in
    no_memory command c.in-Some.ensures.command (within command _ _ (c.in-Err-NoMemory.ensures.not_long (λ e. cc))) (search rules) (search rules) (search rules)

pub returns-in-Ok-answer : goal.returns-in-Ok-answer
returns-in-Ok-answer g c =
    let command = c.in-Some.command in
    let a = c.in-Ok-answer.answer in
    answered command c.in-Some.ensures.command c.in-Ok.bytes (given-all command _ _ c.in-Ok.bytes c.in-Ok.ensures.all.0 c.in-Ok.ensures.all.1) (reply_of a.reply)
    (subst (λ b. Answers b command (reply_of a.reply)) c.as_slice.ensures c.in-Ok-answer.ensures.reply) c.answered.ensures.code
    (ran_kept command (IsDocumentIn c.in-Ok.bytes) _ (reply_of a.reply) _ a.ran _ c.answered.ensures.code c.answered.ensures.kept c.answered.ensures.lost
    (subst (λ b. HasRan command (IsDocumentIn b) (code_of a.reply.status) a.ran) c.as_slice.ensures c.in-Ok-answer.ensures.ran))

pub returns : goal.returns
returns g c =
    let command = c.in-Some.command in
    no_memory command c.in-Some.ensures.command (within command _ _ (c.in-Ok.bytes, c.in-Ok.ensures.all.0, c.in-Ok.ensures.all.1.0)) (search rules) (search rules) (search rules)
