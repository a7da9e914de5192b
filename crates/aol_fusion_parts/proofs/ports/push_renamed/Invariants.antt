use Rattle.std.proofs.Common.{◌≡◌, ◌++◌, drop, length}
use Rattle.aol_fusion_parts.specs.Ports.{renamed}
use Rattle.aol_fusion_parts.proofs.ports.push_renamed.Given as goal

abbrev pub invariant-loop-port : goal.invariant-loop-port
invariant-loop-port l = l.initial.made ++ renamed l.side (length l.initial.made) l.ports ≡ l.made ++ renamed l.side (length l.made) (drop l.port-index l.ports)
