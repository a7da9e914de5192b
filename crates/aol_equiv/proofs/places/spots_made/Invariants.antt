use Rattle.std.proofs.Common.{◌≡◌, take, map}
use Rattle.aol_model_types.specs.declared.task.OutPort.{OutPort}
use Rattle.aol_flat.specs.Instance.{places_of_sizes, port_sizes}
use Rattle.aol_equiv.proofs.places.spots_made.Given as goal

abbrev pub invariant-loop-number : goal.invariant-loop-number
invariant-loop-number l = l.spots.items ≡ places_of_sizes 0 (port_sizes (map (λ (o : OutPort). o.port) (take l.number l.outs)))
