use Rattle.std.proofs.Common.{◌≡◌, ◌++◌, drop}
use Rattle.aol_fusion_parts.specs.Made.{pick_links}
use Rattle.aol_fusion_parts.proofs.pair.push_pick_links.Given as goal

abbrev pub invariant-loop-port : goal.invariant-loop-port
invariant-loop-port l = l.initial.links ++ pick_links l.picks l.ports ≡ l.links ++ pick_links l.picks (drop l.port-index l.ports)
