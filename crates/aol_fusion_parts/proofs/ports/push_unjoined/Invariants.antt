use Rattle.std.proofs.Common.{◌≡◌, ◌++◌, drop}
use Rattle.aol_fusion_parts.specs.Ports.{unjoined_ports}
use Rattle.aol_fusion_parts.proofs.ports.push_unjoined.Given as goal

abbrev pub invariant-loop-port : goal.invariant-loop-port
invariant-loop-port l = l.initial.made ++ unjoined_ports l.args l.compound l.ins ≡ l.made ++ unjoined_ports l.args l.compound (drop l.port-index l.ins)
