use Rattle.std.proofs.Common.{◌≡◌, ◌++◌, drop}
use Rattle.aol_fusion_parts.specs.Made.{links_out}
use Rattle.aol_fusion_parts.proofs.pair.push_links_out.Given as goal

abbrev pub invariant-loop-port : goal.invariant-loop-port
invariant-loop-port l = record {
  count : l.number ≡ l.port-index;
  made : l.initial.links ++ links_out 0 l.ports ≡ l.links ++ links_out l.number (drop l.port-index l.ports);
}
