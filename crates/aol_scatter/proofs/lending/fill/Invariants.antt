use Rattle.std.proofs.Common.{◌-◌, ◌≡◌, ◌≤◌, Some, None, true, replicate, ◌++◌}
use Rattle.aol_scatter.proofs.lending.fill.Given as goal

abbrev pub invariant-loop-k : goal.invariant-loop-k
invariant-loop-k g l = (l.part.at ≡ l.fn.part.at) × (l.part.fresh ≡ true) × (l.k ≤ l.count) × (l.part.cells ≡ replicate l.k (Some l.value) ++ replicate (l.count - l.k) None)

abbrev pub decreases-loop-k : goal.decreases-loop-k
decreases-loop-k g l = l.count - l.k
