use Rattle.std.proofs.Common.{◌≡◌, ◌≤◌, ◌++◌, length, reverse}
use Rattle.aol_change.proofs.list.take_off.Given as goal

abbrev pub invariant-loop-tasks : goal.invariant-loop-tasks
invariant-loop-tasks l = record {
  taken : l.initial.tasks ++ reverse l.initial.rest ≡ l.tasks ++ reverse l.rest;
  long : l.at ≤ length l.tasks;
}

abbrev pub decreases-loop-tasks : goal.decreases-loop-tasks
decreases-loop-tasks l = length l.tasks
