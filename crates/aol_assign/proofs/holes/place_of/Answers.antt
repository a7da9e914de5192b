use Rattle.std.proofs.Common.{◌≡◌, ◌+◌, ◌≤◌, sum, drop, get_or, ◌∙◌, ap, arith, slice_get}
use Rattle.aol_flat.specs.Instance.{places_of_sizes}
use Rattle.aol_assign.proofs.ReadingPlaces.{place_here, place_later, sizes_at, sum_cons}
use Rattle.aol_assign.proofs.holes.place_of.Goals as goal

pub returns-then-left-size : goal.returns-then-left-size
returns-then-left-size c =
    let i = c.loop-place.place in
    let n = get_or c.args.sizes.now i 0 in
    c.loop-place.invariant.at
    ∙ (ap (λ s. slice_get (places_of_sizes i s) c.loop-place.left) (sizes_at c.args.sizes.now i (omega arith))
    ∙ place_here i n (drop (i + 1) c.args.sizes.now) c.loop-place.left c.if-left-size.true)

pub loop-place-preserved : goal.loop-place-preserved
loop-place-preserved c =
    let i = c.loop-place.place in
    let x = c.loop-place.left in
    let n = get_or c.args.sizes.now i 0 in
    let rest = drop (i + 1) c.args.sizes.now in
    let split = sizes_at c.args.sizes.now i (omega arith) in
    let many : n ≤ x = c.if-left-size.false in
    let all : sum (drop i c.args.sizes.now) ≡ n + sum rest = ap sum split ∙ sum_cons n rest in
    record {
      at = c.loop-place.invariant.at ∙ (ap (λ s. slice_get (places_of_sizes i s) x) split ∙ place_later i n rest x many);
      within = omega (arith, c.loop-place.invariant.within, all, many);
    }
