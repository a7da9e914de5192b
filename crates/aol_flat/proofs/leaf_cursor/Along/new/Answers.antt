use Rattle.std.proofs.Common.{◌≡◌, length, take, drop, ◌++◌, ◌∙◌, ap, arith}
use Rattle.std.proofs.Math.Seq.{take-append_seam}
use Rattle.aol_shape.specs.Shape.{point_at}
use Rattle.aol_flat.proofs.Alongs.{some_instance, along_row}
use Rattle.aol_flat.proofs.leaf_cursor.Along.new.Goals as goal

pub unrank-requires-clause-within : goal.unrank-requires-clause-within
unrank-requires-clause-within c = some_instance c.args.flat.now.model c.model-model.ensures.flat.sound c.args.leaf c.leaf-row.result.now c.leaf-row.ensures

pub returns-clause-along : goal.returns-clause-along
returns-clause-along c =
    let m = c.args.flat.now.model in
    let row = c.leaf-row.result.now in
    let v = c.in_ok-at.at in
    let p = c.unrank.new.point in
    let count : v.len ≡ length p = omega arith in
    let is = ap (λ n. take n (p ++ drop (length p) v.items)) count ∙ (take-append_seam p (drop (length p) v.items) ∙ (c.unrank.ensures ∙ ap (λ s. point_at s 0) c.as_slice-space.ensures)) in
    along_row m c.args.leaf row 0 (take v.len (p ++ drop (length p) v.items)) c.leaf-row.ensures (some_instance m c.model-model.ensures.flat.sound c.args.leaf row c.leaf-row.ensures) is
