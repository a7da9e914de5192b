use Rattle.std.proofs.Common.{take}
use Rattle.aol_flat.specs.Instance.{leaves}
use Rattle.aol_flat.specs.Leaves.{instances_of}
use Rattle.aol_equiv.specs.Compared.{AreKeptBefore}
use Rattle.aol_equiv.proofs.compare.test_leaves.Given as goal

abbrev pub invariant-loop-leaf : goal.invariant-loop-leaf
invariant-loop-leaf l = AreKeptBefore l.sides (instances_of (take l.leaf (leaves l.sides.new.now.model)))
