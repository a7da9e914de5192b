use Rattle.aol_csyn.proofs.Written.{adds_both}
use Rattle.aol_csyn.proofs.writing.put_var.Goals as goal

pub returns : goal.returns
returns g c = adds_both c.put_count.ensures c.put.ensures
