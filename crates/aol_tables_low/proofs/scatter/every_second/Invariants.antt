use Rattle.std.proofs.Common.{◌≡◌, ℕ, ◌+◌, ◌-◌, ◌*◌, ◌<◌, ◌≤◌, length, get_or}
use Rattle.aol_tables_low.proofs.scatter.every_second.Given as goal

abbrev pub invariant-loop-j : goal.invariant-loop-j
invariant-loop-j l = (length l.numbers ≡ l.j) × ((i d : ℕ) → i < l.j → get_or l.numbers i d ≡ 2 * i + l.first) × (l.j ≤ 500)

abbrev pub decreases-loop-j : goal.decreases-loop-j
decreases-loop-j l = 500 - l.j
