use Rattle.std.proofs.Common.{◌≡◌, ◌-◌, ◌≤◌}
use Rattle.aol_tables_low.proofs.scatter.put_numbers.Given as goal

abbrev pub invariant-loop-j : goal.invariant-loop-j
invariant-loop-j l = (l.share.name ≡ l.fn.share.name) × (l.share.cells ≡ l.fn.share.cells) × (l.j ≤ 500)

abbrev pub decreases-loop-j : goal.decreases-loop-j
decreases-loop-j l = 500 - l.j
