use Rattle.std.proofs.Common.{◌≡◌, ◌++◌, drop}
use Rattle.aol_fusion_parts.specs.Whole.{placed_tilers, all_placed_limit}
use Rattle.aol_fusion_parts.proofs.whole.push_placed.Given as goal

abbrev pub invariant-loop-port : goal.invariant-loop-port
invariant-loop-port l = record {
  count : l.number ≡ l.port-index;
  made : l.initial.made ++ placed_tilers l.one l.by 0 l.ports ≡ l.made ++ placed_tilers l.one l.by l.number (drop l.port-index l.ports);
  limit : all_placed_limit l.one l.by l.ports ≡ all_placed_limit l.one l.by (drop l.port-index l.ports);
}
