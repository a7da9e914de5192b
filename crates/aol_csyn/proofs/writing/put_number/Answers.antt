use Rattle.std.specs.Prelude.{◌≡◌, negsuc}
use Rattle.std.proofs.Common.{rules, ap, sym, ◌∙◌, w64, to_z, of_z, FitsSigned}
use Rattle.std.proofs.lemmas.Int.{to_z-of_z}
use Rattle.aol_csyn.specs.Text.{number_text}
use Rattle.aol_csyn.proofs.Written.{adds_both, adds_as, negative_text, positive_text}
use Rattle.aol_csyn.proofs.writing.put_number.Goals as goal

pub returns-then-number-lt0 : goal.returns-then-number-lt0
returns-then-number-lt0 g c =
    let fits : FitsSigned w64 c.args.number = search rules in
    let low = simp (to_z-of_z w64) at c.if-number-lt0.true in
    let apart : c.args.number ≡ negsuc 9223372036854775807 → ⊥ = λ e. c.if-number-eqminus9223372036854775808.false (ap (of_z w64) e) in
    let size = simp (to_z-of_z w64) at c.unsigned_abs-magnitude.ensures.value in
    adds_as (number_text c.args.number) (negative_text c.args.number c.unsigned_abs-magnitude.result low apart size) (adds_both c.put_count.ensures c.put-then-number-lt0.ensures)

pub returns-else-number-lt0 : goal.returns-else-number-lt0
returns-else-number-lt0 g c =
    let fits : FitsSigned w64 c.args.number = search rules in
    let low = simp (to_z-of_z w64) at c.if-number-lt0.false in
    let size = simp (to_z-of_z w64) at c.unsigned_abs-magnitude.ensures.value in
    adds_as (number_text c.args.number) (positive_text c.args.number c.unsigned_abs-magnitude.result low size) (adds_both c.put_count-else-number-lt0.ensures c.put-else-number-lt0.ensures)

pub returns-then-number-eqminus9223372036854775808 : goal.returns-then-number-eqminus9223372036854775808
returns-then-number-eqminus9223372036854775808 g c =
    let fits : FitsSigned w64 c.args.number = search rules in
    let least : c.args.number ≡ negsuc 9223372036854775807 = sym (to_z-of_z w64 c.args.number fits) ∙ ap (to_z w64) c.if-number-eqminus9223372036854775808.true in
    adds_as (number_text c.args.number) (ap number_text (sym least)) c.put.ensures
