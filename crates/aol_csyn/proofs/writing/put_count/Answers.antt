use Rattle.std.specs.Prelude.{decimal}
use Rattle.aol_csyn.proofs.Written.{adds_both, adds_as}
use Rattle.aol_csyn.proofs.writing.put_count.Goals as goal

pub returns : goal.returns
returns g c = adds_both c.put.ensures (adds_as (decimal c.args.number) c.format.ensures.text c.put-2.ensures)
