use Rattle.std.proofs.Common.{◌≡◌, ◌++◌, drop, map, []}
use Rattle.aol_fusion_parts.specs.Made.{tiler_over_space}
use Rattle.aol_fusion_parts.proofs.once.push_own_tilers.Given as goal

abbrev pub invariant-loop-port : goal.invariant-loop-port
invariant-loop-port l = l.initial.made ++ map (tiler_over_space []) l.ports ≡ l.made ++ map (tiler_over_space []) (drop l.port-index l.ports)
