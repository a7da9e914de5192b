use Rattle.std.proofs.Common.{◌≡◌}
use Rattle.aol_trail.proofs.Trails.{moved_so_far}
use Rattle.aol_trail.proofs.trail.move_all.Given as goal

abbrev pub invariant-loop-k : goal.invariant-loop-k
invariant-loop-k l = l.levels ≡ moved_so_far l.at l.fn.levels l.k
