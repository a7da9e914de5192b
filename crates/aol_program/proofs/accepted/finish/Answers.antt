use Rattle.std.proofs.Common.{◌≡◌, Some, arith, rules}
use Rattle.aol_program.specs.AcceptedAnswer.{wrong_input}
use Rattle.aol_program.specs.Accept.{document_with}
use Rattle.aol_program.specs.Inputs.{first_wrong_input}
use Rattle.aol_program.proofs.Finishing.{refused_run}
use Rattle.aol_program.proofs.Refusals.{no_end}
use Rattle.aol_program.proofs.accepted.finish.Goals as goal

pub returns-in_ok-reply-in-Some : goal.returns-in_ok-reply-in-Some
returns-in_ok-reply-in-Some g c =
    let a = c.args.accepted in
    let wrong : first_wrong_input a.flat.model a.job.input ≡ Some (c.in-Some.name.now, c.in-Some.cause.now) = search rules in
    refused_run (document_with a.flat a.job) c.in_ok-reply-in-Some.reply _ c.in_ok-reply-in-Some.ensures (wrong_input c.in-Some.name.now c.in-Some.cause.now wrong) (no_end 13 (omega arith) (omega arith))
