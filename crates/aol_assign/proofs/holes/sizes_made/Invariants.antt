use Rattle.std.proofs.Common.{◌≡◌, take, map}
use Rattle.aol_model_types.specs.declared.task.OutPort.{OutPort}
use Rattle.aol_flat.specs.Instance.{port_sizes}
use Rattle.aol_assign.proofs.holes.sizes_made.Given as goal

abbrev pub invariant-loop-out : goal.invariant-loop-out
invariant-loop-out l = l.sizes.items ≡ port_sizes (map (λ (o : OutPort). o.port) (take l.out-index l.outs))
