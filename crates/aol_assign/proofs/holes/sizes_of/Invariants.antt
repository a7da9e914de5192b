use Rattle.std.proofs.Common.{◌≡◌, take}
use Rattle.aol_flat.specs.Instance.{port_sizes}
use Rattle.aol_assign.proofs.holes.sizes_of.Given as goal

abbrev pub invariant-loop-port : goal.invariant-loop-port
invariant-loop-port l = l.sizes.items ≡ port_sizes (take l.port-index l.ports)
