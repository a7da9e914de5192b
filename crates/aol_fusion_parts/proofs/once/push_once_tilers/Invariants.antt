use Rattle.std.proofs.Common.{◌≡◌, ◌++◌, drop, map}
use Rattle.aol_fusion_parts.specs.Made.{once_tiler}
use Rattle.aol_fusion_parts.proofs.once.push_once_tilers.Given as goal

abbrev pub invariant-loop-port : goal.invariant-loop-port
invariant-loop-port l = l.initial.made ++ map (once_tiler l.picks) l.ports ≡ l.made ++ map (once_tiler l.picks) (drop l.port-index l.ports)
