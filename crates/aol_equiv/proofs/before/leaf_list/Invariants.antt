use Rattle.std.proofs.Common.{take}
use Rattle.aol_flat.specs.Instance.{leaves}
use Rattle.aol_flat.specs.Leaves.{instances_of}
use Rattle.aol_equiv.specs.Before.{AreLeavesTo}
use Rattle.aol_equiv.proofs.before.leaf_list.Given as goal

abbrev pub invariant-loop-leaf : goal.invariant-loop-leaf
invariant-loop-leaf l = AreLeavesTo l.flat.model (instances_of (take l.leaf (leaves l.flat.model))) l.list.items
