use Rattle.std.proofs.Common.{◌≤◌, take}
use Rattle.aol_flat.specs.Instance.{leaves}
use Rattle.aol_flat.specs.Leaves.{instances_of}
use Rattle.aol_lines.proofs.instance.leaf_with.Given as goal

abbrev pub invariant-loop-leaf : goal.invariant-loop-leaf
invariant-loop-leaf l = instances_of (take l.leaf (leaves l.flat.model)) ≤ l.number
