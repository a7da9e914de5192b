use Rattle.std.proofs.Common.{◌≡◌, sym, subst}
use Rattle.aol_lines.specs.declared.reply.Reply.{Reply}
use Rattle.aol_program.specs.Accept.{document_with}
use Rattle.aol_program.specs.AcceptedAnswer.{RunAnswers}
use Rattle.aol_program.specs.Finished.{IsFinished}
use Rattle.aol_lines.specs.Reply.{reply_of}
use Rattle.aol_program.proofs.Finishing.{handed_back}
use Rattle.aol_program.proofs.accepted.run_answer.Goals as goal

pub returns-in-Ok-clause-reply : goal.returns-in-Ok-clause-reply
returns-in-Ok-clause-reply g c =
    let d = document_with c.args.accepted.flat c.args.accepted.job in
    let had = subst (IsFinished c.args.accepted c.args.workers) c.in-Ok.is c.in_ok-outcome.ensures in
    subst (λ (r : Reply). RunAnswers d (reply_of r)) (sym c.with_memory.ensures.reply) had.0

pub returns-in-Ok-clause-ran : goal.returns-in-Ok-clause-ran
returns-in-Ok-clause-ran g c =
    let d = document_with c.args.accepted.flat c.args.accepted.job in
    let had = subst (IsFinished c.args.accepted c.args.workers) c.in-Ok.is c.in_ok-outcome.ensures in
    handed_back d c.args.workers c.with_memory.result c.in-Ok.finish.reply _ c.with_memory.ensures.reply c.with_memory.ensures.ran had.1 had.2

pub returns-in-Err-clause-reply : goal.returns-in-Err-clause-reply
returns-in-Err-clause-reply g c = (subst (IsFinished c.args.accepted c.args.workers) c.in-Err.is c.in_ok-outcome.ensures).0

pub returns-in-Err-clause-ran : goal.returns-in-Err-clause-ran
returns-in-Err-clause-ran g c = (subst (IsFinished c.args.accepted c.args.workers) c.in-Err.is c.in_ok-outcome.ensures).1
