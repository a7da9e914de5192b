use Rattle.std.proofs.Common.{◌≡◌, ℕ, ◌+◌, ◌<◌, ◌^◌, length, List, Option, sym, arith, subst}
use Rattle.aol_flat.specs.Instance.{instances}
use Rattle.aol_assign.specs.WriterList.{HasWriters}
use Rattle.aol_assign.proofs.Fitting.{each_among}
use Rattle.aol_assign.proofs.LeafNumbers.{number_listed, among_leaf, instance_there, numbers_small, moved_writes}
use Rattle.aol_assign.proofs.WriterLists.{cells_within, one_put}
use Rattle.aol_assign.proofs.writer_list.put_one.Goals as goal

pub overflow_add-row : goal.overflow_add-row
overflow_add-row c =
    let m = c.args.flat.now.model in
    let listed = number_listed m c.args.writes.now.leaf c.args.row.now c.requires.leaf c.args.number c.requires.within in
    let small : length (instances m) < 2 ^ 32 = numbers_small m c.requires.flat.sound c.requires.flat.limits in
    omega (arith, listed, small)

pub put-requires : goal.put-requires
put-requires c =
    let f = c.args.flat.now in
    let row = c.args.row.now in
    let cs = c.of.new.into in
    let i = instance_there f.model c.args.writes.now.leaf row c.requires.leaf c.args.number c.requires.within in
    let zip = moved_writes f c.args.writes.now.flat c.args.writes.now.leaf row.base c.args.number cs c.requires.cursor c.requires.leaf.base c.of.ensures.writes i.0 i.1 in
    each_among (λ (x : ℕ). x < length c.args.list.now) cs
    (cells_within f c.requires.flat.sound c.requires.single c.requires.flat.laid (row.base + c.args.number) i.0 i.1 cs zip c.args.list.now c.requires.has.many)

pub returns-clause-has : goal.returns-clause-has
returns-clause-has c =
    let f = c.args.flat.now in
    let row = c.args.row.now in
    let cs = c.of.new.into in
    let i = instance_there f.model c.args.writes.now.leaf row c.requires.leaf c.args.number c.requires.within in
    let zip = moved_writes f c.args.writes.now.flat c.args.writes.now.leaf row.base c.args.number cs c.requires.cursor c.requires.leaf.base c.of.ensures.writes i.0 i.1 in
    let n : (row.base + c.args.number) + 1 ≡ row.base + (c.args.number + 1) = omega arith in
    let P : ℕ → Type 0 = λ k. HasWriters f k c.put.new.list in
    let Q : List (Option ℕ) → Type 0 = λ list. HasWriters f ((row.base + c.args.number) + 1) list in
    subst P n (subst Q (sym c.put.ensures)
    (one_put f c.requires.flat.sound c.requires.single c.requires.flat.laid (row.base + c.args.number) i.0 i.1 cs zip c.args.list.now c.requires.has))

pub of-requires-clause-number : goal.of-requires-clause-number
of-requires-clause-number c = among_leaf c.args.flat.now c.args.writes.now.flat c.args.writes.now.leaf c.args.row.now c.requires.leaf c.requires.cursor c.args.number c.requires.within
