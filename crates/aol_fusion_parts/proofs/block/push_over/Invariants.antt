use Rattle.std.proofs.Common.{◌≡◌, ◌++◌, drop, map}
use Rattle.aol_fusion_parts.specs.Made.{over_space, over_limit}
use Rattle.aol_fusion_parts.proofs.block.push_over.Given as goal

abbrev pub invariant-loop-port : goal.invariant-loop-port
invariant-loop-port l = record {
  made : l.initial.made ++ map (over_space l.block) l.ports ≡ l.made ++ map (over_space l.block) (drop l.port-index l.ports);
  limit : over_limit l.block l.ports ≡ over_limit l.block (drop l.port-index l.ports);
}
