use Rattle.aol_csyn.proofs.Written.{adds_both}
use Rattle.aol_csyn.proofs.writing.put_assigned.Goals as goal

pub returns : goal.returns
returns g c = adds_both (adds_both c.put.ensures c.put_expr.ensures) c.put-2.ensures
