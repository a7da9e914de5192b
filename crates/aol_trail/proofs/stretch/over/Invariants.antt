use Rattle.std.proofs.Common.{◌≡◌, ℕ, ◌+◌, ◌*◌, ◌≤◌}
use Rattle.aol_trail.specs.Trail.{rank_on}
use Rattle.aol_trail.proofs.stretch.over.Given as goal

-- so often it has gone on evenly
abbrev pub invariant-loop-k : goal.invariant-loop-k
invariant-loop-k l = record {
  within : l.k ≤ l.inner.room;
  even : (i : ℕ) → i ≤ l.k → rank_on l.outer (l.y + i * l.inner.stride) ≡ l.first + i * l.stride;
}
