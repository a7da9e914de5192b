use Rattle.std.proofs.lemmas.Result.{err_from_is_err_and}
use Rattle.serde_json.specs.View.{view}
use Rattle.aol_exec.proofs.Walks.{no_text_refused, no_program_refused}
use Rattle.aol_exec.proofs.reading.program_in.Goals as goal

pub returns-in_err-text-clause-refused : goal.returns-in_err-text-clause-refused
returns-in_err-text-clause-refused c =
    let p = err_from_is_err_and c.from_residual.result c.from_residual.ensures.1 in
    rw (p.1, p.2) (no_text_refused (view c.args.tree.now) c.in_err-text.field-0.0 c.in_err-text.ensures)

pub returns-in-Err-clause-refused : goal.returns-in-Err-clause-refused
returns-in-Err-clause-refused c = rw c.text_refused.ensures (no_program_refused (view c.args.tree.now) c.in_ok-text.text.now c.in-Err.refused c.in_ok-text.ensures c.in-Err.ensures.at)
