use Rattle.std.proofs.Common.{◌≡◌, ◌++◌, drop, map}
use Rattle.aol_tiling.specs.Tile.{outer_tiler, outer_limit}
use Rattle.aol_tiling.proofs.model.push_outer.Given as goal

abbrev pub invariant-loop-tiler : goal.invariant-loop-tiler
invariant-loop-tiler l = record {
  made : l.initial.made ++ map (outer_tiler l.block) l.tilers ≡ l.made ++ map (outer_tiler l.block) (drop l.tiler-index l.tilers);
  limit : outer_limit l.block l.tilers ≡ outer_limit l.block (drop l.tiler-index l.tilers);
}
