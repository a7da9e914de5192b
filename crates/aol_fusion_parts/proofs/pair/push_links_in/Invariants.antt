use Rattle.std.proofs.Common.{◌≡◌, ◌++◌, drop, length}
use Rattle.aol_fusion_parts.specs.Made.{links_in}
use Rattle.aol_fusion_parts.proofs.pair.push_links_in.Given as goal

abbrev pub invariant-loop-port : goal.invariant-loop-port
invariant-loop-port l = l.initial.links ++ links_in l.part (length l.initial.links) l.ports ≡ l.links ++ links_in l.part (length l.links) (drop l.port-index l.ports)
