use Rattle.std.proofs.Common.{take, refl, arith, ap, sym, ◌∙◌}
use Rattle.std.proofs.lemmas.Result.{err_from_is_err_and}
use Rattle.aol_model_types.specs.Rules.{each, task_checks}
use Rattle.aol_rules.specs.Walk.{first_failing}
use Rattle.aol_rules.proofs.Walks.{went_on, stopped}
use Rattle.aol_rules.proofs.agree.model.test_tasks.Goals as goal

pub returns-in_err-test_task : goal.returns-in_err-test_task
returns-in_err-test_task c =
    let p = err_from_is_err_and c.from_residual.result c.from_residual.ensures.1 in
    rw (p.1, p.2) (ap (λ xs. first_failing (each task_checks c.args.at.now xs)) (sym c.as_slice-list.ensures)
    ∙ stopped task_checks c.args.at.now c.as_slice-list.result.now c.loop-k.k c.to_index.result (take c.loop-k.k c.as_slice-list.result.now) c.index-list-k.result _ c.in_err-test_task.ensures c.loop-k.invariant
    (omega arith) c.to_index.ensures refl c.index-list-k.is)

pub loop-k-preserved : goal.loop-k-preserved
loop-k-preserved c =
    went_on task_checks c.args.at.now c.as_slice-list.result.now c.loop-k.k c.to_index.result (take c.loop-k.k c.as_slice-list.result.now) c.index-list-k.result c.in_ok-test_task.ensures c.loop-k.invariant
    (omega arith) c.to_index.ensures refl c.index-list-k.is
