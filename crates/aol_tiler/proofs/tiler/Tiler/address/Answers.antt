use Rattle.std.proofs.Common.{◌<◌, ℕ, length, ap, arith}
use Rattle.aol_tiler.proofs.Addresses.{length-place}
use Rattle.aol_tiler.proofs.Ranked.{ranked_more, ranked_small, ranked_product}
use Rattle.aol_tiler.proofs.tiler.Tiler.address.Goals as goal

pub overflow_mul-rank : goal.overflow_mul-rank
overflow_mul-rank c =
    let array = c.as_slice-length-items.ensures in
    let inside : c.loop-k.k < length c.args.array.now = omega (arith, ap (length {A = ℕ}) array.entries) in
    rw array.entries (omega (arith, ranked_product _ _ _ _ array.limits inside (length-place _ _ _ _ c.requires.over) c.loop-k.invariant))

pub overflow_add-rank : goal.overflow_add-rank
overflow_add-rank c =
    let array = c.as_slice-length-items.ensures in
    let inside : c.loop-k.k < length c.args.array.now = omega (arith, ap (length {A = ℕ}) array.entries) in
    rw array.entries
    (omega (arith, ranked_small _ _ _ _ array.limits (ranked_more _ _ _ _ _ array.limits inside (length-place _ _ _ _ c.requires.over) c.index_at.ensures.index c.loop-k.invariant)))

pub loop-k-preserved : goal.loop-k-preserved
loop-k-preserved c =
    let array = c.as_slice-length-items.ensures in
    let inside : c.loop-k.k < length c.args.array.now = omega (arith, ap (length {A = ℕ}) array.entries) in
    rw array.entries (ranked_more _ _ _ _ _ array.limits inside (length-place _ _ _ _ c.requires.over) c.index_at.ensures.index c.loop-k.invariant)
