use Rattle.std.proofs.Common.{◌≡◌, ◌++◌, drop, map}
use Rattle.aol_paving.specs.Pave.{outer_tiler, outer_limit}
use Rattle.aol_paving.proofs.model.push_outer.Given as goal

abbrev pub invariant-loop-crossing : goal.invariant-loop-crossing
invariant-loop-crossing l = record {
  made : l.initial.made ++ map (outer_tiler l.block) l.crossings ≡ l.made ++ map (outer_tiler l.block) (drop l.crossing-index l.crossings);
  limit : outer_limit l.block l.crossings ≡ outer_limit l.block (drop l.crossing-index l.crossings);
}
