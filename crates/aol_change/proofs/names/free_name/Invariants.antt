use Rattle.std.proofs.Common.{◌≡◌, ◌+◌, ◌++◌, map, length}
use Rattle.aol_model_types.specs.Rules.{task_name}
use Rattle.aol_change.specs.Change.{free_number}
use Rattle.aol_change.proofs.names.free_name.Given as goal

abbrev pub invariant-loop-left : goal.invariant-loop-left
invariant-loop-left l = record {
  sum : l.number + l.left ≡ length l.tasks + length l.others + 1;
  free : (let taken = map task_name l.tasks ++ l.others in free_number taken l.name (length taken) 1 ≡ free_number taken l.name l.left l.number);
}

abbrev pub decreases-loop-left : goal.decreases-loop-left
decreases-loop-left l = l.left
