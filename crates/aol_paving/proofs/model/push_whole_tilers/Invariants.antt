use Rattle.std.proofs.Common.{◌≡◌, ◌++◌, drop, map}
use Rattle.aol_paving.specs.Pave.{whole_tiler}
use Rattle.aol_paving.proofs.model.push_whole_tilers.Given as goal

abbrev pub invariant-loop-crossing : goal.invariant-loop-crossing
invariant-loop-crossing l = l.initial.made ++ map (whole_tiler l.space) l.crossings ≡ l.made ++ map (whole_tiler l.space) (drop l.crossing-index l.crossings)
