use Rattle.std.proofs.Common.{◌≡◌, ℕ, ◌+◌, ◌<◌, ◌^◌, ◌∙◌, sym, ap, subst, length, slice_get, get_or, Some, arith}
use Rattle.std.proofs.lemmas.Option.{slice_get_within}
use Rattle.aol_flat.specs.Instance.{instances, places_of_sizes, read_sizes, read_elements}
use Rattle.aol_flat.proofs.Alongs.{each_reads}
use Rattle.aol_assign.proofs.LeafNumbers.{number_listed, among_leaf, numbers_small, moved_reads, moved_count}
use Rattle.aol_equiv.specs.Compared.{AreKeptBefore}
use Rattle.aol_equiv.proofs.Filling.{zip_length}
use Rattle.aol_equiv.proofs.Keeping.{at_instance, read_count, all_known, spot_reads, instance_kept, instance_lost, spot_got}
use Rattle.aol_equiv.proofs.compare.test_one.Goals as goal

pub of-requires-clause-number : goal.of-requires-clause-number
of-requires-clause-number c =
    among_leaf c.args.sides.now.new.now c.args.reads.now.flat c.args.reads.now.leaf c.args.row.now c.requires.leaf c.requires.cursor c.args.number c.requires.within

pub overflow_add-instance : goal.overflow_add-instance
overflow_add-instance c =
    let m = c.args.sides.now.new.now.model in
    let listed = number_listed m c.args.reads.now.leaf c.args.row.now c.requires.leaf c.args.number c.requires.within in
    let small : length (instances m) < 2 ^ 32 = numbers_small m c.requires.compared.new_flat.sound c.requires.compared.new_flat.limits in
    omega (arith, listed, small)

pub bounds-sides-instance : goal.bounds-sides-instance
bounds-sides-instance c =
    let listed = number_listed c.args.sides.now.new.now.model c.args.reads.now.leaf c.args.row.now c.requires.leaf c.args.number c.requires.within in
    omega (arith, listed, c.requires.compared.comparable.alike.each)

pub read_before-requires-clause-within : goal.read_before-requires-clause-within
read_before-requires-clause-within c =
    let s = c.args.sides.now in
    let j : ℕ = c.args.row.now.base + c.args.number in
    let listed = number_listed s.new.now.model c.args.reads.now.leaf c.args.row.now c.requires.leaf c.args.number c.requires.within in
    let x = at_instance s c.requires.compared j listed in
    slice_get_within (instances s.old.now.model) (get_or s.old_of.now j 0) x.old_instance x.at_old

pub read_before-requires-clause-many : goal.read_before-requires-clause-many
read_before-requires-clause-many c o at_old =
    let s = c.args.sides.now in
    let j : ℕ = c.args.row.now.base + c.args.number in
    let g = c.args.reads.now.flat in
    let leaf = c.args.reads.now.leaf in
    let row = c.args.row.now in
    let listed = number_listed s.new.now.model leaf row c.requires.leaf c.args.number c.requires.within in
    let x = at_instance s c.requires.compared j listed in
    let among = among_leaf s.new.now g leaf row c.requires.leaf c.requires.cursor c.args.number c.requires.within in
    let count = moved_count s.new.now g leaf row.base c.args.number (length c.args.taken.now) c.requires.cursor c.requires.leaf.base (each_reads c.args.reads.now (length c.args.taken.now) c.requires.many c.args.number among) x.instance x.at in
    read_count s c.requires.compared j x.instance x.at o at_old (length c.args.earlier.now) (c.requires.as_many ∙ count)

pub first_lost-requires-clause-ended : goal.first_lost-requires-clause-ended
first_lost-requires-clause-ended c =
    let s = c.args.sides.now in
    let j : ℕ = c.args.row.now.base + c.args.number in
    let listed = number_listed s.new.now.model c.args.reads.now.leaf c.args.row.now c.requires.leaf c.args.number c.requires.within in
    let x = at_instance s c.requires.compared j listed in
    all_known s c.requires.compared j x.instance x.at x.old_instance x.at_old c.read_before.new.into (c.in_ok-read_before.ensures.reads x.old_instance x.at_old)

pub bounds-spots-lost : goal.bounds-spots-lost
bounds-spots-lost c =
    let s = c.args.sides.now in
    let row = c.args.row.now in
    let j : ℕ = row.base + c.args.number in
    let listed = number_listed s.new.now.model c.args.reads.now.leaf row c.requires.leaf c.args.number c.requires.within in
    let x = at_instance s c.requires.compared j listed in
    let zip = moved_reads s.new.now c.args.reads.now.flat c.args.reads.now.leaf row.base c.args.number c.of.new.into c.requires.cursor c.requires.leaf.base c.of.ensures.reads x.instance x.at in
    let many = zip_length _ (read_elements s.new.now.model x.instance) c.of.new.into zip in
    let spots = ap length (c.requires.spots x.instance x.at) in
    omega (arith, c.in-Some.ensures.inside, many, spots, spot_reads s c.requires.compared j x.instance x.at x.old_instance x.at_old)

pub bounds-spots-lost-in-Some : goal.bounds-spots-lost-in-Some
bounds-spots-lost-in-Some c =
    let s = c.args.sides.now in
    let row = c.args.row.now in
    let j : ℕ = row.base + c.args.number in
    let listed = number_listed s.new.now.model c.args.reads.now.leaf row c.requires.leaf c.args.number c.requires.within in
    let x = at_instance s c.requires.compared j listed in
    let zip = moved_reads s.new.now c.args.reads.now.flat c.args.reads.now.leaf row.base c.args.number c.of.new.into c.requires.cursor c.requires.leaf.base c.of.ensures.reads x.instance x.at in
    let many = zip_length _ (read_elements s.new.now.model x.instance) c.of.new.into zip in
    let spots = ap length (c.requires.spots x.instance x.at) in
    omega (arith, c.in-Some.ensures.inside, many, spots, spot_reads s c.requires.compared j x.instance x.at x.old_instance x.at_old)

pub returns-in-None-clause-kept : goal.returns-in-None-clause-kept
returns-in-None-clause-kept c =
    let s = c.args.sides.now in
    let row = c.args.row.now in
    let j : ℕ = row.base + c.args.number in
    let listed = number_listed s.new.now.model c.args.reads.now.leaf row c.requires.leaf c.args.number c.requires.within in
    let x = at_instance s c.requires.compared j listed in
    let zip = moved_reads s.new.now c.args.reads.now.flat c.args.reads.now.leaf row.base c.args.number c.of.new.into c.requires.cursor c.requires.leaf.base c.of.ensures.reads x.instance x.at in
    let n : (row.base + c.args.number) + 1 ≡ row.base + (c.args.number + 1) = omega arith in
    let P : ℕ → Type 0 = λ k. AreKeptBefore s k in
    subst P n
    (instance_kept s c.requires.compared j x.instance x.at x.old_instance x.at_old c.read_before.new.into (c.in_ok-read_before.ensures.reads x.old_instance x.at_old) c.of.new.into zip c.requires.kept c.in-None.ensures)

pub returns-in-Some-clause-kept : goal.returns-in-Some-clause-kept
returns-in-Some-clause-kept c =
    let s = c.args.sides.now in
    let row = c.args.row.now in
    let j : ℕ = row.base + c.args.number in
    let listed = number_listed s.new.now.model c.args.reads.now.leaf row c.requires.leaf c.args.number c.requires.within in
    let x = at_instance s c.requires.compared j listed in
    let zip = moved_reads s.new.now c.args.reads.now.flat c.args.reads.now.leaf row.base c.args.number c.of.new.into c.requires.cursor c.requires.leaf.base c.of.ensures.reads x.instance x.at in
    let many = zip_length _ (read_elements s.new.now.model x.instance) c.of.new.into zip in
    let are = c.requires.spots x.instance x.at in
    let under : c.in-Some.lost < length c.args.spots.now = omega (arith, c.in-Some.ensures.inside, many, ap length are, spot_reads s c.requires.compared j x.instance x.at x.old_instance x.at_old) in
    let spot = get_or c.args.spots.now c.in-Some.lost (0, 0) in
    let place : slice_get (places_of_sizes 0 (read_sizes s.new.now.model x.instance)) c.in-Some.lost ≡ Some (spot.0, spot.1) = ap (λ ps. slice_get ps c.in-Some.lost) (sym are) ∙ spot_got c.args.spots.now c.in-Some.lost under in
    instance_lost s c.requires.compared j x.instance x.at x.old_instance x.at_old c.read_before.new.into (c.in_ok-read_before.ensures.reads x.old_instance x.at_old) c.of.new.into zip c.requires.kept
    c.in-Some.lost spot.0 spot.1 c.in-Some.required c.in-Some.ensures place
