use Rattle.std.proofs.Common.{◌≡◌, sym, subst}
use Rattle.std.specs.Prelude.{IfOk}
use Rattle.serde_json.specs.Written.{compact_text}
use Rattle.aol_shape.specs.Lines.{line}
use Rattle.aol_model_types.specs.declared.document.Model.{Model}
use Rattle.aol_model_types.specs.declared.job.Job.{Job}
use Rattle.aol_model_types.specs.Writing.{document_tree}
use Rattle.aol_lines.specs.declared.status.StatusKind.TheVariants.{Done}
use Rattle.aol_lines.specs.Reply.{reply, reply_of}
use Rattle.aol_program.specs.Made.{IsTransformed}
use Rattle.aol_program.specs.AcceptedAnswer.{TransformAnswers, not_made, made, without_steps}
use Rattle.aol_program.specs.Accept.{document_with}
use Rattle.aol_program.proofs.Replies.{made_of}
use Rattle.aol_program.proofs.accepted.transform_reply.Goals as goal

pub returns-in-Ok : goal.returns-in-Ok
returns-in-Ok c =
    let a = c.args.accepted in
    let had = subst (IsTransformed a.flat.model a.job.transform) c.in-Ok.is (subst (λ xs. IsTransformed a.flat.model xs c.in_ok-outcome.outcome) c.as_slice.ensures c.in_ok-outcome.ensures) in
    let P : Model → Job → Type 0 = λ m j. IfOk c.print_reply.result (λ r. reply_of r ≡ reply Done (line (compact_text (document_tree m j)))) in
    let printed : P c.in-Ok.made.flat.model (without_steps a.job) =
    subst (λ m. P m (without_steps a.job)) c.model.ensures.same (subst (λ j. P c.model.result.now j) c.without_steps-left.ensures c.print_reply.ensures) in
    made_of (TransformAnswers (document_with a.flat a.job)) c.print_reply.result (reply Done (line (compact_text (document_tree c.in-Ok.made.flat.model (without_steps a.job))))) printed (made c.in-Ok.made.flat.model had.made)

pub returns : goal.returns
returns c =
    let a = c.args.accepted in
    not_made _ (subst (IsTransformed a.flat.model a.job.transform) c.in-Err.is (subst (λ xs. IsTransformed a.flat.model xs c.in_ok-outcome.outcome) c.as_slice.ensures c.in_ok-outcome.ensures))
