use Rattle.std.specs.Prelude.{codes, ◌++◌}
use Rattle.std.proofs.Common.{rules, ap, w64, FitsSigned}
use Rattle.std.proofs.lemmas.Int.{to_z-of_z}
use Rattle.aol_csyn.specs.Text.{number_text}
use Rattle.aol_csyn.proofs.Written.{adds_both, adds_as}
use Rattle.aol_csyn.proofs.writing.put_for_line.Goals as goal

pub returns : goal.returns
returns g c =
    let fits_a : FitsSigned w64 c.args.a = search rules in
    let fits_b : FitsSigned w64 c.args.b = search rules in
    let low = adds_as (codes " = " ++ number_text c.args.a) (ap (λ z. codes " = " ++ number_text z) (to_z-of_z w64 c.args.a fits_a)) c.put_number_after.ensures in
    let high = adds_as (codes " < " ++ number_text c.args.b) (ap (λ z. codes " < " ++ number_text z) (to_z-of_z w64 c.args.b fits_b)) c.put_number_after-2.ensures in
    adds_both (adds_both (adds_both (adds_both (adds_both (adds_both c.put_count.ensures low) c.put_count-2.ensures) high) c.put_count-3.ensures) c.put_count-4.ensures) c.put.ensures
