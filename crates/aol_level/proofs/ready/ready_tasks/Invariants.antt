use Rattle.std.proofs.Common.{◌≡◌, take}
use Rattle.aol_level.specs.Made.{AreMade, elementary_among}
use Rattle.aol_level.proofs.ready.ready_tasks.Given as goal

abbrev pub invariant-loop-task : goal.invariant-loop-task
invariant-loop-task l = record {
  number : l.number ≡ elementary_among (take l.task-index l.tasks);
  made : AreMade (take l.task-index l.tasks) l.all.items;
}
