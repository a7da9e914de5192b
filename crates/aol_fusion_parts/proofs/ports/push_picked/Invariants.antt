use Rattle.std.proofs.Common.{◌≡◌, ◌++◌, drop}
use Rattle.aol_fusion_parts.specs.Ports.{picked_ports, unpicked_ports}
use Rattle.aol_fusion_parts.proofs.ports.push_picked.Given as goal

abbrev pub invariant-loop-port : goal.invariant-loop-port
invariant-loop-port l = record {
  picked : l.initial.picked ++ picked_ports l.args l.compound l.two l.ins ≡ l.picked ++ picked_ports l.args l.compound l.two (drop l.port-index l.ins);
  free : l.initial.free ++ unpicked_ports l.args l.compound l.two l.ins ≡ l.free ++ unpicked_ports l.args l.compound l.two (drop l.port-index l.ins);
}
