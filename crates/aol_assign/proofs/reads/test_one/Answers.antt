use Rattle.std.proofs.Common.{not, ◌≡◌, ℕ, ◌+◌, ◌<◌, ◌^◌, length, sym, arith, subst}
use Rattle.std.specs.List.{sum}
use Rattle.aol_flat.specs.Instance.{instances, read_elements, read_sizes}
use Rattle.aol_flat.proofs.Alongs.{each_reads}
use Rattle.aol_assign.specs.Holes.{is_given_by}
use Rattle.aol_assign.specs.ReadsSoFar.{AreGivenBefore}
use Rattle.aol_assign.proofs.HolesTold.{instance_given, instance_hole, position_under}
use Rattle.aol_assign.proofs.LeafNumbers.{number_listed, among_leaf, instance_there, numbers_small, moved_reads, moved_count, row_reads, read_sizes_few, reads_within}
use Rattle.aol_assign.proofs.reads.test_one.Goals as goal

pub of-requires-clause-number : goal.of-requires-clause-number
of-requires-clause-number c = among_leaf c.args.flat.now c.args.reads.now.flat c.args.reads.now.leaf c.args.row.now c.requires.leaf c.requires.cursor c.args.number c.requires.within

pub first_hole-requires-clause-within : goal.first_hole-requires-clause-within
first_hole-requires-clause-within c =
    let f = c.args.flat.now in
    let row = c.args.row.now in
    let rs = c.of.new.into in
    let i = instance_there f.model c.args.reads.now.leaf row c.requires.leaf c.args.number c.requires.within in
    let zip = moved_reads f c.args.reads.now.flat c.args.reads.now.leaf row.base c.args.number rs c.requires.cursor c.requires.leaf.base c.of.ensures.reads i.0 i.1 in
    reads_within f c.args.list.now c.requires.tested.writers.many (read_elements f.model i.0) rs zip

pub returns-in_default-clause-given : goal.returns-in_default-clause-given
returns-in_default-clause-given c =
    let f = c.args.flat.now in
    let row = c.args.row.now in
    let rs = c.of.new.into in
    let i = instance_there f.model c.args.reads.now.leaf row c.requires.leaf c.args.number c.requires.within in
    let zip = moved_reads f c.args.reads.now.flat c.args.reads.now.leaf row.base c.args.number rs c.requires.cursor c.requires.leaf.base c.of.ensures.reads i.0 i.1 in
    let known = c.requires.tested in
    let n : (row.base + c.args.number) + 1 ≡ row.base + (c.args.number + 1) = omega arith in
    let P : ℕ → Type 0 = λ k. AreGivenBefore f.model k in
    subst P n
    (instance_given f known.flat.sound known.flat.laid known.single c.args.list.now known.writers c.args.inputs known.inputs_are (row.base + c.args.number) i.0 i.1 rs zip c.requires.given (sym c.in_default.ensures))

pub read_place-requires : goal.read_place-requires
read_place-requires c =
    let f = c.args.flat.now in
    let row = c.args.row.now in
    let rs = c.of.new.into in
    let g = c.args.reads.now.flat in
    let leaf = c.args.reads.now.leaf in
    let i = instance_there f.model leaf row c.requires.leaf c.args.number c.requires.within in
    let has = row_reads f.model c.requires.tested.flat.sound leaf row c.requires.leaf c.args.number c.requires.within i.0 i.1 in
    let among = among_leaf f g leaf row c.requires.leaf c.requires.cursor c.args.number c.requires.within in
    let count = moved_count f g leaf row.base c.args.number (length c.args.taken.now) c.requires.cursor c.requires.leaf.base (each_reads c.args.reads.now (length c.args.taken.now) c.requires.many c.args.number among) i.0 i.1 in
    let under = position_under (λ r. not (is_given_by c.args.list.now c.args.inputs r)) rs c.in-Some.hole (sym c.in-Some.ensures) in
    let kept : length rs ≡ length c.args.taken.now = omega arith in
    let hole : c.in-Some.hole < sum (read_sizes f.model i.0) = omega (arith, under, kept, count) in
    (i.0, has, hole, read_sizes_few f.model c.requires.tested.flat.sound i.0 row.kind has)

pub overflow_add-result : goal.overflow_add-result
overflow_add-result c =
    let m = c.args.flat.now.model in
    let listed = number_listed m c.args.reads.now.leaf c.args.row.now c.requires.leaf c.args.number c.requires.within in
    let small : length (instances m) < 2 ^ 32 = numbers_small m c.requires.tested.flat.sound c.requires.tested.flat.limits in
    omega (arith, listed, small)

pub returns-clause-given : goal.returns-clause-given
returns-clause-given c =
    let f = c.args.flat.now in
    let row = c.args.row.now in
    let rs = c.of.new.into in
    let leaf = c.args.reads.now.leaf in
    let i = instance_there f.model leaf row c.requires.leaf c.args.number c.requires.within in
    let zip = moved_reads f c.args.reads.now.flat leaf row.base c.args.number rs c.requires.cursor c.requires.leaf.base c.of.ensures.reads i.0 i.1 in
    let has = row_reads f.model c.requires.tested.flat.sound leaf row c.requires.leaf c.args.number c.requires.within i.0 i.1 in
    let known = c.requires.tested in
    instance_hole f known.flat.sound known.flat.laid known.single c.args.list.now known.writers c.args.inputs known.inputs_are (row.base + c.args.number) i.0 i.1 rs zip c.requires.given
    c.in-Some.hole c.in_ok-port.port c.in_ok-port.point (sym c.in-Some.ensures) (c.in_ok-port.ensures i.0 has)
