use Rattle.std.proofs.Common.{◌≡◌, ℕ, ◌<◌, length, refl, ap, arith}
use Rattle.std.proofs.lemmas.Int.{to_z-of_z}
use Rattle.aol_shape.specs.Vectors.{wrapped}
use Rattle.aol_tiler.specs.Sums.{entry, entry_plus}
use Rattle.aol_tiler.specs.Tiler.{integers}
use Rattle.aol_tiler.proofs.Entries.{long_enough}
use Rattle.aol_trail.proofs.Places.{residues_more}
use Rattle.aol_trail.proofs.residues.+write_residues.Goals as goal

pub entry_at-number-requires-clause-long : goal.entry_at-number-requires-clause-long
entry_at-number-requires-clause-long t c =
    let low : c.args.k < length c.args.start.now = omega (arith, c.requires.same, ap (length {A = ℕ}) c.in-Some.ensures.cases.0) in
    long_enough c.args.columns.now (length c.args.start.now) c.args.k c.requires.even low

pub returns-clause-places : goal.returns-clause-places
returns-clause-places t c =
    let number : c.entry_at-number.result ≡ entry_plus (entry c.args.start.now c.args.k) c.args.columns.now (integers c.args.indices.now) c.args.k = grind (arith, to_z-of_z) in
    let kept : c.reduced.result ≡ wrapped c.entry_at-number.result c.in-Some.entry.now = grind (arith, to_z-of_z) in
    residues_more c.args.array.now c.in-Some.array.now c.args.places.now c.in-Some-split_first_mut.places.now _ c.write_residues-behind.new.places
    c.args.start.now c.args.columns.now (integers c.args.indices.now) c.args.k c.in-Some.entry.now c.in-Some-split_first_mut.place.now c.reduced.result c.write_residues-behind.result c.entry_at-number.result
    c.in-Some.ensures.cases.0 c.in-Some-split_first_mut.ensures.cases.0 refl c.requires.same number kept c.write_residues-behind.ensures.size c.write_residues-behind.ensures.places
