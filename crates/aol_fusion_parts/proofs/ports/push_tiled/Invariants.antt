use Rattle.std.proofs.Common.{◌≡◌, ◌++◌, drop}
use Rattle.aol_fusion_parts.specs.Ports.{tiled_ports}
use Rattle.aol_fusion_parts.proofs.ports.push_tiled.Given as goal

abbrev pub invariant-loop-port : goal.invariant-loop-port
invariant-loop-port l = l.initial.made ++ tiled_ports l.two l.outs ≡ l.made ++ tiled_ports l.two (drop l.port-index l.outs)
