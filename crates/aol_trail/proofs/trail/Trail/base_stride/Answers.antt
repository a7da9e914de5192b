use Rattle.std.proofs.Common.{◌+◌, ◌*◌, ◌<◌, length, sym, ◌∙◌, ap, arith}
use Rattle.std.proofs.lemmas.Bool.Decides.{nat_tests}
use Rattle.aol_trail.specs.Trail.{TrailOf, base_at}
use Rattle.aol_trail.proofs.Furthers.{base_further, base_short}
use Rattle.aol_trail.proofs.trail.Trail.base_stride.Goals as goal

pub returns-then-self-at : goal.returns-then-self-at
returns-then-self-at c = λ i. base_short c.args.self.now c.args.at.now i c.requires (λ e. c.if-self-at.true (ap (λ (z : TrailOf). length z.around) c.self.view_is ∙ e))

pub returns : goal.returns
returns c = λ i.
    let t = c.args.self.now in
    let at = c.args.at.now in
    let some : 0 < length at = grind (arith, nat_tests) in
    base_further t at i c.requires some (sym (ap (λ (z : TrailOf). length z.around) c.self.view_is) ∙ c.if-self-at.false) ∙ ap (λ n. base_at at t + i * n) (sym (ap (λ (z : TrailOf). z.many) c.self.view_is))
