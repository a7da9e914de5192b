use Rattle.std.proofs.Common.{◌≡◌, sym, subst}
use Rattle.aol_program.specs.Accept.{IsDocumentIn, document_with}
use Rattle.aol_program.specs.AcceptedAnswer.{AcceptedAnswers}
use Rattle.aol_program.specs.Answer.{Answers, by_document}
use Rattle.aol_program.specs.Ran.{HasRan}
use Rattle.aol_program.specs.Refusing.{IsReplyTo}
use Rattle.aol_lines.specs.Reply.{reply_of}
use Rattle.aol_lines.specs.Status.{code_of}
use Rattle.aol_program.proofs.Finishing.{accepted_bytes, document_bytes, ran_for}
use Rattle.aol_program.proofs.Replies.{carried, carried_answer, alone_reply, alone_ran, none_ran}
use Rattle.aol_program.proofs.program.document_answer.Goals as goal

pub returns-in-Ok-clause-reply : goal.returns-in-Ok-clause-reply
returns-in-Ok-clause-reply g c =
    let a = c.in-Ok.accepted in
    carried_answer (λ x. AcceptedAnswers c.args.command (document_with a.flat a.job) (reply_of x.reply)) (λ x. Answers c.args.bytes.now c.args.command (reply_of x.reply)) c.accepted_answer.result
    (λ x p. accepted_bytes c.args.bytes.now c.args.command a c.requires.about c.in-Ok.ensures.accepted (reply_of x.reply) p) c.accepted_answer.ensures.reply

pub returns-in-Ok-clause-ran : goal.returns-in-Ok-clause-ran
returns-in-Ok-clause-ran g c =
    let a = c.in-Ok.accepted in
    carried_answer (λ x. HasRan c.args.command (λ d. d ≡ document_with a.flat a.job) (code_of x.reply.status) x.ran) (λ x. HasRan c.args.command (IsDocumentIn c.args.bytes.now) (code_of x.reply.status) x.ran) c.accepted_answer.result
    (λ x p. ran_for c.args.command (λ d. d ≡ document_with a.flat a.job) (IsDocumentIn c.args.bytes.now) (document_bytes c.args.bytes.now a c.in-Ok.ensures.accepted) (code_of x.reply.status) x.ran p) c.accepted_answer.ensures.ran

pub returns-in-Err-clause-reply : goal.returns-in-Err-clause-reply
returns-in-Err-clause-reply g c =
    alone_reply (Answers c.args.bytes.now c.args.command) c.refused_reply.result c.alone.result c.alone.ensures
    (carried (IsReplyTo c.in-Err.refused) (Answers c.args.bytes.now c.args.command) c.refused_reply.result
    (λ x told. by_document c.requires.about x (told.answers c.args.bytes.now c.args.command c.in-Err.ensures.refused)) c.refused_reply.ensures)

pub returns-in-Err-clause-ran : goal.returns-in-Err-clause-ran
returns-in-Err-clause-ran g c =
    alone_ran (IsReplyTo c.in-Err.refused) (HasRan c.args.command (IsDocumentIn c.args.bytes.now)) c.refused_reply.result c.alone.result c.alone.ensures c.refused_reply.ensures
    (λ x told. none_ran c.args.command (IsDocumentIn c.args.bytes.now) (code_of x.status) told.no_run)
