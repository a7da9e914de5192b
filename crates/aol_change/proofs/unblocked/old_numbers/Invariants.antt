use Rattle.std.proofs.Common.{◌≡◌, ◌++◌, take, drop}
use Rattle.aol_flat.specs.Instance.{leaves}
use Rattle.aol_flat.specs.Leaves.{instances_of}
use Rattle.aol_change.specs.Unblocked.{numbers_in_leaves, old_numbers}
use Rattle.aol_change.proofs.unblocked.old_numbers.Given as goal

abbrev pub invariant-loop-leaf : goal.invariant-loop-leaf
invariant-loop-leaf l =
    old_numbers l.old.model l.task l.outer l.block
    ≡ l.old_of.items ++ numbers_in_leaves l.old.model l.task l.outer l.block (instances_of (take l.leaf (leaves l.old.model))) (drop l.leaf (leaves l.old.model))
