use Rattle.std.proofs.Common.{◌≡◌, length, take, flat_map}
use Rattle.aol_flat.specs.Net.{Net, IsNetOf, writes_at}
use Rattle.aol_level.specs.Made.{IsHand}
use Rattle.aol_level.specs.Parts.{puts_at}
use Rattle.aol_level.specs.Puts.{put_from}
use Rattle.aol_level.proofs.hand.run_all.Given as goal

-- the instances before have put theirs
abbrev pub invariant-loop-number : goal.invariant-loop-number
invariant-loop-number l = record {
  hand : IsHand l.flat l.hand;
  name : l.share.name ≡ l.fn.share.name;
  cells : l.share.cells ≡ l.fn.share.cells;
  place : (net : Net) → IsNetOf l.flat net → l.place ≡ length (flat_map (writes_at net) (take l.number-index l.numbers));
  values : (net : Net) → IsNetOf l.flat net → l.share.values ≡ put_from l.fn.share.values 0 (flat_map (puts_at net l.rest.cells l.worker) (take l.number-index l.numbers));
}
