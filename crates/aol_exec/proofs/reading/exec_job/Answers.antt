use Rattle.std.proofs.lemmas.Result.{err_from_is_err_and}
use Rattle.serde_json.specs.View.{view}
use Rattle.aol_csyn.specs.Stored.{program_of}
use Rattle.aol_exec.proofs.Walks.{no_rest_refused}
use Rattle.aol_exec.proofs.reading.exec_job.Goals as goal

pub returns-in_err-memory-clause-refused : goal.returns-in_err-memory-clause-refused
returns-in_err-memory-clause-refused c =
    let p = err_from_is_err_and c.from_residual-in_err-memory.result c.from_residual-in_err-memory.ensures.1 in
    rw (p.1, p.2) (no_rest_refused (view c.args.tree.now) (program_of c.in_ok-program.program) c.in_ok-program.ensures.program c.in_err-memory.field-0.0 c.in_err-memory.ensures)
