use Rattle.std.proofs.Common.{rules, ◌≡◌, true, ◌∙◌, sym}
use Rattle.aol_allocate.specs.Placement.{fits_leaf}
use Rattle.aol_allocate.proofs.Causes.{shape_fits, unplaced_told, none_told}
use Rattle.aol_allocate.proofs.marks.mark_space.Goals as goal

pub returns-in_default-first_unplaced : goal.returns-in_default-first_unplaced
returns-in_default-first_unplaced c =
    let tilers : c.tilers_fit.result ≡ true = search rules in
    let fits : fits_leaf c.args.entry.now c.args.space.now ≡ true = shape_fits c.args.entry.now c.args.space.now c.requires.shape ∙ (sym c.tilers_fit.ensures ∙ tilers) in
    none_told c.args.entry.now c.args.workers c.args.space.now c.mark_all.new.marks fits c.in_default.ensures (sym c.first_unplaced.ensures ∙ c.in_default-first_unplaced.is)

pub returns : goal.returns
returns c =
    let tilers : c.tilers_fit.result ≡ true = search rules in
    let fits : fits_leaf c.args.entry.now c.args.space.now ≡ true = shape_fits c.args.entry.now c.args.space.now c.requires.shape ∙ (sym c.tilers_fit.ensures ∙ tilers) in
    unplaced_told c.args.entry.now c.args.workers c.args.space.now c.mark_all.new.marks c.in-Some-first_unplaced.rank c.point_of-2.result c.requires.some c.requires.bound fits
    c.in_default.ensures (sym c.first_unplaced.ensures ∙ c.in-Some-first_unplaced.is) c.point_of-2.ensures
