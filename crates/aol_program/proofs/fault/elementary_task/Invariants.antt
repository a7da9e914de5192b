use Rattle.std.proofs.Common.{◌≡◌, drop, filter, slice_get}
use Rattle.aol_flat.specs.Tasks.{is_elementary}
use Rattle.aol_program.proofs.fault.elementary_task.Given as goal

-- so many tasks that compute are still to come before it
abbrev pub invariant-loop-task : goal.invariant-loop-task
invariant-loop-task l = slice_get (filter is_elementary l.tasks) l.number ≡ slice_get (filter is_elementary (drop l.task-index l.tasks)) l.left
