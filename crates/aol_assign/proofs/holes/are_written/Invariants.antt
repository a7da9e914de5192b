use Rattle.std.proofs.Common.{◌≡◌, ◌≤◌, ◌<◌, ℕ, Some, slice_get}
use Rattle.aol_assign.proofs.holes.are_written.Given as goal

abbrev pub invariant-loop-cell : goal.invariant-loop-cell
invariant-loop-cell l = (c : ℕ) → l.first ≤ c → c < l.cell → (j : ℕ) × (slice_get l.list c ≡ Some (Some j))
