use Rattle.std.proofs.Common.{rules, ◌≡◌, get_or, sym, ◌∙◌}
use Rattle.aol_flat.proofs.Stepping.{count_none, count_found}
use Rattle.aol_flat.proofs.below.count_named.Goals as goal

pub returns-in_default : goal.returns-in_default
returns-in_default c = count_none c.args.from.model.now c.args.name.now c.args.counts.now (sym (c.number_named.ensures c.args.from.model.now.tasks c.args.from.found) ∙ c.in_default.is)

pub returns : goal.returns
returns c =
    let is : c.unwrap_or.result ≡ get_or c.args.counts.now c.in-Some.number 0 = search rules in
    count_found c.args.from.model.now c.args.name.now c.args.counts.now c.in-Some.number c.unwrap_or.result (sym (c.number_named.ensures c.args.from.model.now.tasks c.args.from.found) ∙ c.in-Some.is) is
