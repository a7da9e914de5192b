use Rattle.std.proofs.Common.{◌≡◌, refl, sym, subst}
use Rattle.std.specs.Prelude.{IfOk}
use Rattle.aol_model_types.specs.declared.document.Document.{Document}
use Rattle.aol_model_types.specs.declared.document.Model.{Model}
use Rattle.aol_program.specs.declared.reply.Answer.{Answer}
use Rattle.aol_program.specs.declared.words.Command.{Command}
use Rattle.aol_program.specs.declared.words.Command.TheVariants.{Check, Print, Transform, Run, Place}
use Rattle.aol_program.specs.Accept.{document_with}
use Rattle.aol_program.specs.AcceptedAnswer.{AcceptedAnswers}
use Rattle.aol_program.specs.Ran.{HasRan}
use Rattle.aol_lines.specs.Reply.{reply_of}
use Rattle.aol_lines.specs.Status.{code_of}
use Rattle.aol_program.proofs.Commands.{run_workers, place_workers}
use Rattle.aol_program.proofs.Replies.{alone_reply, alone_none, by_command}
use Rattle.aol_program.proofs.accepted.accepted_answer.Goals as goal

-- what is to be shown of an answer
abbrev Replies : Document → Command → Answer → Type 0
Replies d c a = AcceptedAnswers c d (reply_of a.reply)

abbrev Leaves : Document → Command → Answer → Type 0
Leaves d c a = HasRan c (λ e. e ≡ d) (code_of a.reply.status) a.ran

pub run_answer-requires-clause-workers : goal.run_answer-requires-clause-workers
run_answer-requires-clause-workers g c = λ _ _. run_workers c.args.command c.in-Run.workers c.requires.asked c.in-Run.is

pub placement_reply-requires-clause-workers : goal.placement_reply-requires-clause-workers
placement_reply-requires-clause-workers g c = place_workers c.args.command c.in-Place.workers c.requires.asked c.in-Place.is

pub returns-in-Check-clause-reply : goal.returns-in-Check-clause-reply
returns-in-Check-clause-reply g c =
    let d = document_with c.args.accepted.flat c.args.accepted.job in
    by_command c.args.command Check (Replies d) c.alone.result c.in-Check.is (alone_reply (AcceptedAnswers Check d) c.check_reply.result c.alone.result c.alone.ensures c.check_reply.ensures)

pub returns-in-Check-clause-ran : goal.returns-in-Check-clause-ran
returns-in-Check-clause-ran g c =
    let d = document_with c.args.accepted.flat c.args.accepted.job in
    by_command c.args.command Check (Leaves d) c.alone.result c.in-Check.is (alone_none Check (λ e. e ≡ d) c.check_reply.result c.alone.result c.alone.ensures (λ code. refl))

pub returns-in-Print-clause-reply : goal.returns-in-Print-clause-reply
returns-in-Print-clause-reply g c =
    let d = document_with c.args.accepted.flat c.args.accepted.job in
    let printed : IfOk c.print_reply.result (λ r. AcceptedAnswers Print d (reply_of r)) =
    subst (λ (m : Model). IfOk c.print_reply.result (λ r. AcceptedAnswers Print (record { model = m; job = c.args.accepted.job }) (reply_of r))) c.model.ensures.same c.print_reply.ensures in
    by_command c.args.command Print (Replies d) c.alone-in-Print.result c.in-Print.is (alone_reply (AcceptedAnswers Print d) c.print_reply.result c.alone-in-Print.result c.alone-in-Print.ensures printed)

pub returns-in-Print-clause-ran : goal.returns-in-Print-clause-ran
returns-in-Print-clause-ran g c =
    let d = document_with c.args.accepted.flat c.args.accepted.job in
    by_command c.args.command Print (Leaves d) c.alone-in-Print.result c.in-Print.is (alone_none Print (λ e. e ≡ d) c.print_reply.result c.alone-in-Print.result c.alone-in-Print.ensures (λ code. refl))

pub returns-in-Transform-clause-reply : goal.returns-in-Transform-clause-reply
returns-in-Transform-clause-reply g c =
    let d = document_with c.args.accepted.flat c.args.accepted.job in
    by_command c.args.command Transform (Replies d) c.alone-in-Transform.result c.in-Transform.is
    (alone_reply (AcceptedAnswers Transform d) c.transform_reply.result c.alone-in-Transform.result c.alone-in-Transform.ensures c.transform_reply.ensures)

pub returns-in-Transform-clause-ran : goal.returns-in-Transform-clause-ran
returns-in-Transform-clause-ran g c =
    let d = document_with c.args.accepted.flat c.args.accepted.job in
    by_command c.args.command Transform (Leaves d) c.alone-in-Transform.result c.in-Transform.is
    (alone_none Transform (λ e. e ≡ d) c.transform_reply.result c.alone-in-Transform.result c.alone-in-Transform.ensures (λ code. refl))

pub returns-in-Run-clause-reply : goal.returns-in-Run-clause-reply
returns-in-Run-clause-reply g c =
    let d = document_with c.args.accepted.flat c.args.accepted.job in
    by_command c.args.command (Run c.in-Run.workers) (Replies d) c.run_answer.result c.in-Run.is c.run_answer.ensures.reply

pub returns-in-Run-clause-ran : goal.returns-in-Run-clause-ran
returns-in-Run-clause-ran g c =
    let d = document_with c.args.accepted.flat c.args.accepted.job in
    by_command c.args.command (Run c.in-Run.workers) (Leaves d) c.run_answer.result c.in-Run.is c.run_answer.ensures.ran

pub returns-in-Place-clause-reply : goal.returns-in-Place-clause-reply
returns-in-Place-clause-reply g c =
    let d = document_with c.args.accepted.flat c.args.accepted.job in
    by_command c.args.command (Place c.in-Place.workers) (Replies d) c.alone-in-Place.result c.in-Place.is
    (alone_reply (AcceptedAnswers (Place c.in-Place.workers) d) c.placement_reply.result c.alone-in-Place.result c.alone-in-Place.ensures c.placement_reply.ensures)

pub returns-in-Place-clause-ran : goal.returns-in-Place-clause-ran
returns-in-Place-clause-ran g c =
    let d = document_with c.args.accepted.flat c.args.accepted.job in
    by_command c.args.command (Place c.in-Place.workers) (Leaves d) c.alone-in-Place.result c.in-Place.is
    (alone_none (Place c.in-Place.workers) (λ e. e ≡ d) c.placement_reply.result c.alone-in-Place.result c.alone-in-Place.ensures (λ code. refl))
