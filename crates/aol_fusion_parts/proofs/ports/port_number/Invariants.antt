use Rattle.std.proofs.Common.{◌≡◌, ◌+◌, drop}
use Rattle.aol_fusion_parts.specs.Ports.{port_number}
use Rattle.aol_fusion_parts.proofs.ports.port_number.Given as goal

abbrev pub invariant-loop-port : goal.invariant-loop-port
invariant-loop-port l = record {
  count : l.number ≡ l.port-index;
  found : port_number l.ports l.name ≡ l.number + port_number (drop l.port-index l.ports) l.name;
}
