use Rattle.std.proofs.Common.{◌≡◌, map, take}
use Rattle.aol_level.specs.Puts.{put_from}
use Rattle.aol_runner.specs.Through.{number_kept}
use Rattle.aol_runner.proofs.opening.put_numbers.Given as goal

-- the numbers so far stand in the share
abbrev pub invariant-loop-x : goal.invariant-loop-x
invariant-loop-x l = record {
  name : l.share.name ≡ l.fn.share.name;
  cells : l.share.cells ≡ l.fn.share.cells;
  values : l.share.values ≡ put_from l.fn.share.values l.place (map number_kept (take l.x l.nums));
}
