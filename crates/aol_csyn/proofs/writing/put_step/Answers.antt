use Rattle.std.proofs.Common.{ap}
use Rattle.aol_csyn.specs.Stored.{stmts_of}
use Rattle.aol_csyn.specs.Text.{stmts_text}
use Rattle.aol_csyn.proofs.Written.{adds_both, adds_as}
use Rattle.aol_csyn.proofs.writing.put_step.Goals as goal

pub returns : goal.returns
returns g c =
    let body = adds_as (stmts_text (stmts_of c.args.step.now.body)) (ap (λ b. stmts_text (stmts_of b)) c.as_slice.ensures) c.put_stmts.ensures in
    adds_both (adds_both (adds_both (adds_both (adds_both c.put.ensures c.put_name.ensures) c.put-2.ensures) c.put_vars.ensures) body) c.put-3.ensures
