use Rattle.std.proofs.Common.{◌≡◌, ◌++◌, drop}
use Rattle.aol_fusion_parts.specs.Ports.{sources}
use Rattle.aol_fusion_parts.proofs.ports.push_sources.Given as goal

abbrev pub invariant-loop-port : goal.invariant-loop-port
invariant-loop-port l = l.initial.made ++ sources l.picks l.outs ≡ l.made ++ sources l.picks (drop l.port-index l.outs)
