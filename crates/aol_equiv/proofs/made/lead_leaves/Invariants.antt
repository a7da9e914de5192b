use Rattle.std.proofs.Common.{take}
use Rattle.aol_flat.specs.Instance.{leaves}
use Rattle.aol_flat.specs.Leaves.{instances_of}
use Rattle.aol_equiv.specs.Table.{HasLeads}
use Rattle.aol_equiv.proofs.made.lead_leaves.Given as goal

abbrev pub invariant-loop-leaf : goal.invariant-loop-leaf
invariant-loop-leaf l = HasLeads l.flat (instances_of (take l.leaf (leaves l.flat.model))) l.leads
