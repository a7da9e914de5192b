use Rattle.std.proofs.Common.{refl}
use Rattle.aol_program.specs.declared.words.Command.TheVariants.{Exec}
use Rattle.aol_program.specs.Accept.{IsDocumentIn}
use Rattle.aol_program.specs.Answer.{JsonAnswers, Answers, by_job}
use Rattle.aol_program.specs.ExecAnswer.{IsExecReply}
use Rattle.aol_program.specs.Ran.{HasRan}
use Rattle.aol_program.specs.Words as subjects
use Rattle.aol_program.proofs.Commands.{about_known, about_document}
use Rattle.aol_program.proofs.Replies.{carried, alone_reply, alone_none, none_known}
use Rattle.aol_program.proofs.program.answer.Goals as goal

pub document_answer-requires-clause-about : goal.document_answer-requires-clause-about
document_answer-requires-clause-about g c = λ _ _. about_document c.args.command c.in-Check.is

pub returns-in-Exec-clause-reply : goal.returns-in-Exec-clause-reply
returns-in-Exec-clause-reply g c =
    alone_reply (Answers c.args.bytes.now c.args.command) c.exec_reply.result c.alone.result c.alone.ensures
    (carried (JsonAnswers c.args.bytes.now IsExecReply) (Answers c.args.bytes.now c.args.command) c.exec_reply.result
    (λ x told. by_job (about_known c.args.command Exec subjects.job c.in-Exec.is refl) x told) c.exec_reply.ensures)

pub returns-in-Exec-clause-ran : goal.returns-in-Exec-clause-ran
returns-in-Exec-clause-ran g c =
    alone_none c.args.command (IsDocumentIn c.args.bytes.now) c.exec_reply.result c.alone.result c.alone.ensures
    (none_known c.args.command Exec (IsDocumentIn c.args.bytes.now) c.in-Exec.is (λ code. refl))
