use Rattle.std.proofs.Common.{◌≡◌, ◌+◌, ◌*◌, ◌-◌, ◌^◌, ◌<◌, ◌≤◌, sym, ◌∙◌, arith}
use Rattle.aol_trail.specs.Trail.{rank_on}
use Rattle.aol_trail.proofs.Furthers.{even_twice}
use Rattle.aol_trail.proofs.stretch.over.Goals as goal

pub overflow_add-y : goal.overflow_add-y
overflow_add-y c =
    let some : 1 ≤ c.args.inner.room = omega (arith, c.if-inner-eq0.false) in
    let low : c.args.y + 1 * c.args.inner.stride < 2 ^ 32 = c.requires.small 1 some in
    omega (arith, low)

pub loop-k-init : goal.loop-k-init
loop-k-init c =
    let first = c.rank_over-first.result in
    let second = c.rank_over-second.result in
    let more : second ≡ first + (second - first) = omega (arith, c.if-second-first.false) in
    record {
      within = omega (arith, c.if-inner-eq0.false);
      even = even_twice (rank_on c.args.outer.now) c.args.y c.args.inner.stride first (second - first) (sym c.rank_over-first.ensures) (sym c.rank_over-second.ensures ∙ more);
    }
