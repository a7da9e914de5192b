use Rattle.std.proofs.Common.{◌∙◌, sym}
use Rattle.aol_flat.proofs.Laying.{no_main, from_root}
use Rattle.aol_flat.proofs.TaskNumbers.{found}
use Rattle.aol_flat.proofs.flat.visit_all.Goals as goal

pub returns-in_default : goal.returns-in_default
returns-in_default c =
    let m = c.args.from.model.now in
    no_main m c.args.walk.now tt (sym (c.number_named.ensures m.tasks c.args.from.found) ∙ c.in_default.is)

pub visit-requires : goal.visit-requires
visit-requires c =
    let m = c.args.from.model.now in
    (found m.tasks m.main c.in-Some.number (sym (c.number_named.ensures m.tasks c.args.from.found) ∙ c.in-Some.is)).within

pub returns : goal.returns
returns c =
    let m = c.args.from.model.now in
    from_root m c.root.result c.args.walk.now c.visit.new.walk c.in-Some.number c.visit.result (sym (c.number_named.ensures m.tasks c.args.from.found) ∙ c.in-Some.is)
    c.root.ensures.depth c.root.ensures.space c.root.ensures.path c.visit.ensures
