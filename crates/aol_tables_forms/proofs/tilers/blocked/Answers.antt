use Rattle.std.proofs.Common.{◌≡◌, length, sym, ◌∙◌, ap}
use Rattle.aol_tables_forms.proofs.Tried.{blockable_line}
use Rattle.aol_tables_forms.proofs.tilers.blocked.Goals as goal

-- it fits, and a line has one dimension
pub blocked-requires : goal.blocked-requires
blocked-requires c =
    let one : length c.args.line.now ≡ 1 = sym (ap length c.as_slice.ensures.entries) ∙ c.if-as_slice-ne1.false in
    blockable_line c.args.tiler.now c.args.line.now c.args.line.now (sym c.fits.ensures ∙ c.if-not-fits.false) one
