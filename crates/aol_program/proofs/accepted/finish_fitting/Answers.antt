use Rattle.std.proofs.Common.{◌≡◌, sym, subst}
use Rattle.aol_program.specs.Accept.{document_with}
use Rattle.aol_program.specs.AcceptedAnswer.{by_step, not_placed}
use Rattle.aol_program.specs.Made.{IsMadeOf}
use Rattle.aol_program.proofs.Checked.{inputs-fit}
use Rattle.aol_program.proofs.Finishing.{not_made_no_end, finished_by}
use Rattle.aol_program.proofs.KeptRun.{inputs_fit}
use Rattle.aol_program.proofs.accepted.finish_fitting.Goals as goal

pub run_made-requires-clause-accepted : goal.run_made-requires-clause-accepted
run_made-requires-clause-accepted g c = λ _ _. (subst (IsMadeOf c.args.accepted.flat.model c.args.accepted.job.transform) c.in-Ok.is (subst (λ xs. IsMadeOf c.args.accepted.flat.model xs c.in_ok-outcome.outcome) c.as_slice.ensures c.in_ok-outcome.ensures)).keeps.accepted

pub run_made-requires-clause-levels : goal.run_made-requires-clause-levels
run_made-requires-clause-levels g c = λ _ _. (subst (IsMadeOf c.args.accepted.flat.model c.args.accepted.job.transform) c.in-Ok.is (subst (λ xs. IsMadeOf c.args.accepted.flat.model xs c.in_ok-outcome.outcome) c.as_slice.ensures c.in_ok-outcome.ensures)).levels

pub run_made-requires-clause-fit : goal.run_made-requires-clause-fit
run_made-requires-clause-fit g c =
    λ _ _.
    inputs_fit (subst (IsMadeOf c.args.accepted.flat.model c.args.accepted.job.transform) c.in-Ok.is (subst (λ xs. IsMadeOf c.args.accepted.flat.model xs c.in_ok-outcome.outcome) c.as_slice.ensures c.in_ok-outcome.ensures)).made c.args.accepted.job.input
    (inputs-fit c.args.accepted.flat.model c.args.accepted.job.input c.requires.right)

pub returns-in-Ok : goal.returns-in-Ok
returns-in-Ok g c =
    finished_by c.args.accepted c.args.workers c.in-Ok.made c.run_made.result c.requires.accepted c.requires.right (subst (IsMadeOf c.args.accepted.flat.model c.args.accepted.job.transform) c.in-Ok.is (subst (λ xs. IsMadeOf c.args.accepted.flat.model xs c.in_ok-outcome.outcome) c.as_slice.ensures c.in_ok-outcome.ensures)) c.run_made.ensures

pub returns : goal.returns
returns g c =
    let d = document_with c.args.accepted.flat c.args.accepted.job in
    let told = subst (IsMadeOf d.model d.job.transform) c.in-Err.is (subst (λ xs. IsMadeOf c.args.accepted.flat.model xs c.in_ok-outcome.outcome) c.as_slice.ensures c.in_ok-outcome.ensures) in
    (not_placed c.requires.right _ (by_step _ told), not_made_no_end d.model d.job.transform _ told)
