use Rattle.std.proofs.Common.{◌≡◌, sym, subst}
use Rattle.aol_program.specs.Made.{IsTransformed, IsPlaceReply}
use Rattle.aol_program.specs.AcceptedAnswer.{PlaceAnswers, by_step, unplaced}
use Rattle.aol_program.specs.Accept.{document_with}
use Rattle.aol_program.proofs.Finishing.{placed_by}
use Rattle.aol_program.proofs.Replies.{carried}
use Rattle.aol_program.proofs.accepted.placement_reply.Goals as goal

pub returns-in-Ok : goal.returns-in-Ok
returns-in-Ok c =
    let a = c.args.accepted in
    let d = document_with a.flat a.job in
    let had = subst (IsTransformed a.flat.model a.job.transform) c.in-Ok.is (subst (λ xs. IsTransformed a.flat.model xs c.in_ok-outcome.outcome) c.as_slice.ensures c.in_ok-outcome.ensures) in
    carried (IsPlaceReply c.in-Ok.made.flat.model a.job.allocate c.args.workers) (PlaceAnswers d c.args.workers) c.place_reply.result (λ r told. placed_by d c.in-Ok.made.flat.model c.args.workers had.made r told) c.place_reply.ensures

pub returns : goal.returns
returns c =
    let a = c.args.accepted in
    unplaced _ (by_step _ (subst (IsTransformed a.flat.model a.job.transform) c.in-Err.is (subst (λ xs. IsTransformed a.flat.model xs c.in_ok-outcome.outcome) c.as_slice.ensures c.in_ok-outcome.ensures)))
