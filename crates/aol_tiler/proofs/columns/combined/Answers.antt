use Rattle.std.proofs.Common.{◌≡◌, ◌<◌, length, sym, ◌∙◌, ap, subst, take, arith, rules}
use mir.Val.{to_z, of_z}
use mir.Syntax.{w32, w128}
use Rattle.aol_shape.specs.Vectors.{IsVectorEntry, plus_columns}
use Rattle.aol_tiler.specs.Sums.{entry}
use Rattle.aol_tiler.proofs.Entries.{to_z_back, long_enough, entry-plus_columns, length-plus_columns}
use Rattle.aol_tiler.proofs.Narrowed.{narrowed_more, narrowed_out, narrowed_all}
use Rattle.aol_tiler.proofs.columns.combined.Goals as goal
use Rattle.aol_tiler.proofs.columns.combined.Goals.{After-narrowed}

-- the sum that the code makes is the vector's entry
sum_is : (c : After-narrowed) → to_z w128 (of_z w128 c.wide_entry_at-sum.result) ≡ entry (plus_columns c.args.start.now c.args.columns.now c.args.numbers.now) c.loop-k.k
sum_is c =
    let sum : c.wide_entry_at-sum.result ≡ entry (plus_columns c.args.start.now c.args.columns.now c.args.numbers.now) c.loop-k.k = grind (arith, to_z_back, entry-plus_columns) in
    to_z_back w128 c.wide_entry_at-sum.result (search rules) ∙ sum

pub wide_entry_at-sum-requires-clause-long : goal.wide_entry_at-sum-requires-clause-long
wide_entry_at-sum-requires-clause-long c = long_enough c.args.columns.now (length c.args.start.now) c.loop-k.k c.requires.even c.loop-k-test.true

pub returns-in_default : goal.returns-in_default
returns-in_default c =
    narrowed_out _ _ _ _ (omega (arith, length-plus_columns c.args.start.now c.args.columns.now c.args.numbers.now, c.loop-k-test.true))
    (subst (λ z. ¬ IsVectorEntry z) (sum_is (goal.at.returns-in_default c).After-narrowed) c.in_default.ensures.none) c.loop-k.invariant

pub loop-k-preserved : goal.loop-k-preserved
loop-k-preserved c =
    let made = plus_columns c.args.start.now c.args.columns.now c.args.numbers.now in
    let is = sum_is (goal.at.loop-k-preserved c).After-narrowed in
    let inside : c.loop-k.k < length c.args.start.now = c.loop-k-test.true in
    rw (to_z_back w32 c.in-Some.entry (search rules))
    (narrowed_more _ _ _ _ _ (omega (arith, inside, c.requires.start.rank)) (omega (arith, length-plus_columns c.args.start.now c.args.columns.now c.args.numbers.now, inside))
    (c.in-Some.ensures.some.0 ∙ is) (subst IsVectorEntry (sym c.in-Some.ensures.some.0) c.in-Some.ensures.some.1) c.loop-k.invariant)

pub returns : goal.returns
returns c =
    let long = length-plus_columns c.args.start.now c.args.columns.now c.args.numbers.now in
    let end : c.loop-k.k ≡ length c.args.start.now = omega (arith, c.loop-k-test.false, c.loop-k.auto.k-end) in
    narrowed_all _ _ _ _ c.loop-k.k (long ∙ sym end) (omega (arith, end, c.requires.start.rank)) (c.in-Some-new.ensures.some.0 ∙ ap (λ k. take k c.loop-k.entries) (sym end)) c.loop-k.invariant
