use Rattle.std.proofs.Common.{◌≡◌, ℕ, ◌+◌, ◌<◌, ◌^◌, List, length, sym, arith, subst}
use Rattle.aol_flat.specs.Instance.{instances}
use Rattle.aol_assign.proofs.LeafNumbers.{number_listed, among_leaf, instance_there, numbers_small, moved_writes}
use Rattle.aol_equiv.specs.declared.leads.Lead.{Lead}
use Rattle.aol_equiv.specs.Table.{HasLeads}
use Rattle.aol_equiv.proofs.Filling.{filled_within, spots_as_cells, run_led}
use Rattle.aol_equiv.proofs.made.lead_run.Goals as goal

pub of-requires-clause-number : goal.of-requires-clause-number
of-requires-clause-number c = among_leaf c.args.flat.now c.args.writes.now.flat c.args.writes.now.leaf c.args.row.now c.requires.leaf c.requires.cursor c.args.number c.requires.within

pub overflow_add-row : goal.overflow_add-row
overflow_add-row c =
    let m = c.args.flat.now.model in
    let listed = number_listed m c.args.writes.now.leaf c.args.row.now c.requires.leaf c.args.number c.requires.within in
    let small : length (instances m) < 2 ^ 32 = numbers_small m c.requires.flat.sound c.requires.flat.limits in
    omega (arith, listed, small)

pub put_made-requires-clause-within : goal.put_made-requires-clause-within
put_made-requires-clause-within c =
    let f = c.args.flat.now in
    let row = c.args.row.now in
    let i = instance_there f.model c.args.writes.now.leaf row c.requires.leaf c.args.number c.requires.within in
    let zip = moved_writes f c.args.writes.now.flat c.args.writes.now.leaf row.base c.args.number c.of.new.into c.requires.cursor c.requires.leaf.base c.of.ensures.writes i.0 i.1 in
    filled_within f c.requires.flat.sound c.requires.flat.laid c.requires.single (row.base + c.args.number) i.0 i.1 c.of.new.into zip c.args.leads.now c.requires.has.many

pub put_made-requires-clause-many : goal.put_made-requires-clause-many
put_made-requires-clause-many c =
    let f = c.args.flat.now in
    let row = c.args.row.now in
    let i = instance_there f.model c.args.writes.now.leaf row c.requires.leaf c.args.number c.requires.within in
    let zip = moved_writes f c.args.writes.now.flat c.args.writes.now.leaf row.base c.args.number c.of.new.into c.requires.cursor c.requires.leaf.base c.of.ensures.writes i.0 i.1 in
    spots_as_cells f c.requires.flat.sound c.requires.flat.laid c.requires.single (row.base + c.args.number) i.0 i.1 c.of.new.into zip c.args.spots.now c.requires.spots

pub returns-clause-has : goal.returns-clause-has
returns-clause-has c =
    let f = c.args.flat.now in
    let row = c.args.row.now in
    let i = instance_there f.model c.args.writes.now.leaf row c.requires.leaf c.args.number c.requires.within in
    let zip = moved_writes f c.args.writes.now.flat c.args.writes.now.leaf row.base c.args.number c.of.new.into c.requires.cursor c.requires.leaf.base c.of.ensures.writes i.0 i.1 in
    let n : (row.base + c.args.number) + 1 ≡ row.base + (c.args.number + 1) = omega arith in
    let P : ℕ → Type 0 = λ k. HasLeads f k c.put_made.new.leads in
    let Q : List Lead → Type 0 = λ list. HasLeads f ((row.base + c.args.number) + 1) list in
    subst P n
    (subst Q (sym c.put_made.ensures)
    (run_led f c.requires.flat.sound c.requires.flat.laid c.requires.single (row.base + c.args.number) i.0 i.1 c.of.new.into zip c.args.spots.now c.requires.spots c.args.leads.now c.requires.has))
