use Rattle.std.proofs.Common.{◌∙◌, sym, refl}
use Rattle.aol_flat.proofs.Placing.{place_no_main, place_root}
use Rattle.aol_flat.proofs.TaskNumbers.{found}
use Rattle.aol_flat.proofs.tables.place_all.Goals as goal

pub returns-in_default : goal.returns-in_default
returns-in_default c =
    let m = c.args.from.model.now in
    place_no_main m c.args.table.now tt (sym (c.number_named.ensures m.tasks c.args.from.found) ∙ c.in_default.is)

pub place-requires : goal.place-requires
place-requires c =
    let m = c.args.from.model.now in
    (found m.tasks m.main c.in-Some.number (sym (c.number_named.ensures m.tasks c.args.from.found) ∙ c.in-Some.is)).within

pub returns : goal.returns
returns c =
    let m = c.args.from.model.now in
    place_root m _ c.args.table.now c.place.new.table c.in-Some.number c.place.result (sym (c.number_named.ensures m.tasks c.args.from.found) ∙ c.in-Some.is) refl refl c.place.ensures
