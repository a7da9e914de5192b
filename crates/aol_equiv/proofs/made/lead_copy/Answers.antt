use Rattle.std.proofs.Common.{◌≡◌, ℕ, ◌+◌, List, sym, arith, subst}
use Rattle.aol_flat.specs.Leaves.{IsLeafRow}
use Rattle.aol_assign.proofs.LeafNumbers.{among_leaf, instance_there, moved_reads, moved_writes}
use Rattle.aol_equiv.specs.declared.leads.Lead.{Lead}
use Rattle.aol_equiv.specs.Table.{HasLeads}
use Rattle.aol_equiv.proofs.Filling.{filled_within, reads_as_cells, copy_led}
use Rattle.aol_equiv.proofs.made.lead_copy.Goals as goal

pub of-requires-clause-number : goal.of-requires-clause-number
of-requires-clause-number c =
    let P : ℕ → Type 0 = λ k. IsLeafRow c.args.flat.now.model k c.args.row.now in
    among_leaf c.args.flat.now c.args.reads.now.flat c.args.reads.now.leaf c.args.row.now (subst P (sym c.requires.same_leaf) c.requires.leaf) c.requires.read_cursor c.args.number c.requires.within

pub of-requires-2-clause-number : goal.of-requires-2-clause-number
of-requires-2-clause-number c = among_leaf c.args.flat.now c.args.writes.now.flat c.args.writes.now.leaf c.args.row.now c.requires.leaf c.requires.cursor c.args.number c.requires.within

pub put_copied-requires-clause-within : goal.put_copied-requires-clause-within
put_copied-requires-clause-within c =
    let f = c.args.flat.now in
    let row = c.args.row.now in
    let i = instance_there f.model c.args.writes.now.leaf row c.requires.leaf c.args.number c.requires.within in
    let zip = moved_writes f c.args.writes.now.flat c.args.writes.now.leaf row.base c.args.number c.of-2.new.into c.requires.cursor c.requires.leaf.base c.of-2.ensures.writes i.0 i.1 in
    filled_within f c.requires.flat.sound c.requires.flat.laid c.requires.single (row.base + c.args.number) i.0 i.1 c.of-2.new.into zip c.args.leads.now c.requires.has.many

pub put_copied-requires-clause-many : goal.put_copied-requires-clause-many
put_copied-requires-clause-many c =
    let f = c.args.flat.now in
    let row = c.args.row.now in
    let i = instance_there f.model c.args.writes.now.leaf row c.requires.leaf c.args.number c.requires.within in
    let zip = moved_writes f c.args.writes.now.flat c.args.writes.now.leaf row.base c.args.number c.of-2.new.into c.requires.cursor c.requires.leaf.base c.of-2.ensures.writes i.0 i.1 in
    let P : ℕ → Type 0 = λ k. IsLeafRow f.model k row in
    let at = subst P (sym c.requires.same_leaf) c.requires.leaf in
    let taken = moved_reads f c.args.reads.now.flat c.args.reads.now.leaf row.base c.args.number c.of.new.into c.requires.read_cursor at.base c.of.ensures.reads i.0 i.1 in
    reads_as_cells f c.requires.flat.sound c.requires.flat.laid c.requires.single (row.base + c.args.number) i.0 i.1 c.of-2.new.into zip c.requires.copying c.of.new.into taken

pub returns-clause-has : goal.returns-clause-has
returns-clause-has c =
    let f = c.args.flat.now in
    let row = c.args.row.now in
    let i = instance_there f.model c.args.writes.now.leaf row c.requires.leaf c.args.number c.requires.within in
    let zip = moved_writes f c.args.writes.now.flat c.args.writes.now.leaf row.base c.args.number c.of-2.new.into c.requires.cursor c.requires.leaf.base c.of-2.ensures.writes i.0 i.1 in
    let P : ℕ → Type 0 = λ k. IsLeafRow f.model k row in
    let at = subst P (sym c.requires.same_leaf) c.requires.leaf in
    let taken = moved_reads f c.args.reads.now.flat c.args.reads.now.leaf row.base c.args.number c.of.new.into c.requires.read_cursor at.base c.of.ensures.reads i.0 i.1 in
    let n : (row.base + c.args.number) + 1 ≡ row.base + (c.args.number + 1) = omega arith in
    let R : ℕ → Type 0 = λ k. HasLeads f k c.put_copied.new.leads in
    let Q : List Lead → Type 0 = λ list. HasLeads f ((row.base + c.args.number) + 1) list in
    subst R n
    (subst Q (sym c.put_copied.ensures)
    (copy_led f c.requires.flat.sound c.requires.flat.laid c.requires.single (row.base + c.args.number) i.0 i.1 c.of-2.new.into zip c.requires.copying c.of.new.into taken c.args.leads.now c.requires.has))
