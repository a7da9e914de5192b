use Rattle.std.proofs.Common.{rules, ap, w64, FitsSigned}
use Rattle.std.proofs.lemmas.Int.{to_z-of_z}
use Rattle.aol_csyn.specs.Text.{number_text}
use Rattle.aol_csyn.proofs.Written.{adds_both, adds_as}
use Rattle.aol_csyn.proofs.writing.put_number_after.Goals as goal

pub returns : goal.returns
returns g c =
    let fits : FitsSigned w64 c.args.number = search rules in
    adds_both c.put.ensures (adds_as (number_text c.args.number) (ap number_text (to_z-of_z w64 c.args.number fits)) c.put_number.ensures)
