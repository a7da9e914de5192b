use Rattle.std.proofs.Common.{◌≡◌, ◌++◌, length, reverse}
use Rattle.aol_change.proofs.list.put_back.Given as goal

abbrev pub invariant-loop-task : goal.invariant-loop-task
invariant-loop-task l = l.initial.tasks ++ reverse l.initial.rest ≡ l.tasks ++ reverse l.rest

abbrev pub decreases-loop-task : goal.decreases-loop-task
decreases-loop-task l = length l.rest
