use Rattle.std.proofs.Common.{◌≡◌, length, map, take}
use Rattle.aol_flat.specs.Net.{flat_inputs}
use Rattle.aol_level.specs.Puts.{put_from}
use Rattle.aol_runner.specs.Through.{number_kept}
use Rattle.aol_runner.proofs.opening.put_arrays.Given as goal

-- the arrays so far stand in the share
abbrev pub invariant-loop-input : goal.invariant-loop-input
invariant-loop-input l = record {
  name : l.share.name ≡ l.fn.share.name;
  cells : l.share.cells ≡ l.fn.share.cells;
  place : l.place ≡ length (flat_inputs (take l.input-index l.inputs));
  values : l.share.values ≡ put_from l.fn.share.values 0 (map number_kept (flat_inputs (take l.input-index l.inputs)));
}
