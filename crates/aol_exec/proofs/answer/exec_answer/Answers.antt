use Rattle.std.proofs.lemmas.Result.{err_from_is_err_and}
use Rattle.serde_json.specs.View.{view}
use Rattle.aol_exec.specs.Results.{job_of}
use Rattle.aol_exec.proofs.Walks.{walk_refuses, job_answers}
use Rattle.aol_exec.proofs.answer.exec_answer.Goals as goal

pub returns-in_err-job : goal.returns-in_err-job
returns-in_err-job c =
    let p = err_from_is_err_and c.from_residual.result c.from_residual.ensures.1 in
    rw (p.1, p.2) (walk_refuses (view c.args.tree.now) c.in_err-job.field-0.0 c.in_err-job.ensures.refused)

pub returns : goal.returns
returns c = job_answers (view c.args.tree.now) (job_of c.in_ok-job.job) c.in_ok-job.ensures.job c.run_job.result c.run_job.ensures
