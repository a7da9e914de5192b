use Rattle.std.proofs.Common.{arith}
use Rattle.aol_trail.proofs.Furthers.{ranks_none, reach_outer, rank_levels}
use Rattle.aol_trail.proofs.stretch.ranks.Goals as goal

pub returns-then-any_ends-clause-even : goal.returns-then-any_ends-clause-even
returns-then-any_ends-clause-even c = λ i le. ranks_none c.args.levels.now c.args.at.now c.args.x i c.requires.stands le

pub over-requires-clause-reaches : goal.over-requires-clause-reaches
over-requires-clause-reaches c = λ i le.
    reach_outer c.args.levels.now c.in-Some.level.now c.in-Some.outer.now c.args.at.now c.args.x c.along-inner.result.stride c.in-Some.ensures.cases.0 c.requires.there c.requires.stands c.if-any_ends.ensures
    i c.rank.result c.rank.ensures (c.along-inner.ensures.even i le) (c.requires.reaches i (omega (arith, le, c.along-inner.ensures.most)))

pub returns-clause-even : goal.returns-clause-even
returns-clause-even c = λ i le.
    rank_levels c.args.levels.now c.in-Some.level.now c.in-Some.outer.now c.args.at.now c.args.x c.along-inner.result.stride c.in-Some.ensures.cases.0 c.requires.there c.requires.stands c.if-any_ends.ensures
    i c.rank.result c.over.result.stride c.rank.ensures (c.along-inner.ensures.even i (omega (arith, le, c.over.ensures.most))) (c.over.ensures.even i le)
