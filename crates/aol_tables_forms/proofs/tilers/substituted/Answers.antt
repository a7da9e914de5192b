use Rattle.std.proofs.Common.{◌≡◌, length, sym, ◌∙◌, ap}
use Rattle.aol_tables_forms.proofs.Tried.{substitutable_line}
use Rattle.aol_tables_forms.proofs.tilers.substituted.Goals as goal

-- both fit, and a line has one dimension
pub substituted-requires : goal.substituted-requires
substituted-requires c =
    let one : length c.args.line.now ≡ 1 = sym (ap length c.as_slice.ensures.entries) ∙ c.if-as_slice-ne1.false in
    substitutable_line c.args.outer.now c.args.line.now c.args.line.now (sym c.fits.ensures ∙ c.if-not-fits.false) one c.args.by.now (sym c.fits-2.ensures ∙ c.if-not-fits-2.false)
