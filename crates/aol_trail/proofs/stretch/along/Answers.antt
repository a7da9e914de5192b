use Rattle.std.proofs.Common.{◌≡◌, ◌+◌, ◌*◌, true, false, refl, sym, ◌∙◌, ap, arith}
use Rattle.std.proofs.Math.Nat.{mul-zero}
use Rattle.aol_trail.specs.Trail.{StepOf, step_rank}
use Rattle.aol_trail.proofs.Furthers.{step_ends, step_kept}
use Rattle.aol_trail.proofs.stretch.along.Goals as goal

pub returns-then-ends_at-clause-even : goal.returns-then-ends_at-clause-even
returns-then-ends_at-clause-even c = λ i le.
    let s = c.args.level.now in
    ap (λ (z : StepOf). step_rank z c.args.x) (step_ends s c.args.at.now i (c.if-ends_at.ensures.0 refl) c.requires.stands) ∙ (c.room.ensures.even i le ∙ ap (λ n. step_rank s c.args.x + i * n) (sym c.stride.ensures))

pub returns-clause-even : goal.returns-clause-even
returns-clause-even c = λ i le.
    let s = c.args.level.now in
    ap (λ (z : StepOf). step_rank z c.args.x) (step_kept s c.args.at.now i c.requires.there (λ e. let no : false ≡ true = c.if-ends_at.ensures.1 e in cc) c.requires.stands) ∙ omega (arith, mul-zero i)
