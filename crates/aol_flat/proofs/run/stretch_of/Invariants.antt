use Rattle.std.proofs.Common.{◌≡◌, ℕ, ◌+◌, ◌*◌, ◌<◌, ◌≤◌}
use Rattle.aol_trail.specs.Further.{further}
use Rattle.aol_trail.specs.Trail.{cell_on, trail_at}
use Rattle.aol_flat.proofs.run.stretch_of.Given as goal

-- the elements so far go on evenly
abbrev pub invariant-loop-x : goal.invariant-loop-x
invariant-loop-x l = record {
  most : l.room ≤ l.most;
  even : (i y : ℕ) → i ≤ l.room → y < l.x → cell_on (trail_at (further i l.at) l.trail) y ≡ cell_on l.trail y + i * l.first.stride;
}
