use Rattle.std.proofs.Common.{◌≡◌, ◌+◌, ◌*◌, ◌^◌, ◌<◌, ◌≤◌, List, map, ◌∙◌, ap, arith, subst}
use Rattle.aol_trail.specs.Further.{further}
use Rattle.aol_trail.specs.Trail.{StepOf, TrailOf, rank_on, step_at}
use Rattle.aol_trail.proofs.Furthers.{cell_further, cell_here, once_small}
use Rattle.aol_trail.proofs.trail.Trail.stretch.Goals as goal

pub returns-then-own-eq0-clause-even : goal.returns-then-own-eq0-clause-even
returns-then-own-eq0-clause-even c = λ i le. cell_here c.args.self.now c.args.at.now c.args.x i c.ranks-own.result.stride c.requires.stands (omega (arith, le, c.if-own-eq0.true))

pub overflow_add-result : goal.overflow_add-result
overflow_add-result c =
    let t = c.args.self.now in
    let at = c.args.at.now in
    let stride = c.ranks-own.result.stride in
    let some : 1 ≤ c.ranks-own.result.room = omega (arith, c.if-own-eq0.false) in
    let ranks = subst (λ (ls : List StepOf). rank_on (map (step_at (further 1 at)) ls) c.args.x ≡ rank_on ls c.args.x + 1 * stride) (c.as_slice.ensures.value ∙ ap (λ (z : TrailOf). z.steps) c.self.view_is) (c.ranks-own.ensures.even 1 some) in
    let even = cell_further t at c.args.x 1 stride c.base_stride.result c.requires.stands ranks (c.base_stride.ensures 1) in
    let low = c.requires.small 1 (omega (arith, some, c.ranks-own.ensures.most)) in
    let small : stride + c.base_stride.result < 2 ^ 32 = once_small _ stride c.base_stride.result (subst (λ n. n < 2 ^ 32) even low) in
    omega (arith, small)
