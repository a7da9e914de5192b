use Rattle.std.proofs.Common.{◌≡◌, ◌<◌, ◌≤◌, ◌-◌, [], length, take}
use Rattle.aol_shape.specs.Vectors.{IsVector}
use Rattle.aol_vsl.specs.Number.{lexemes_at}
use Rattle.aol_vsl.specs.Walk.{column_walk}
use Rattle.aol_vsl.proofs.tiler.column_from.Given as goal

abbrev pub invariant-loop-found : goal.invariant-loop-found
invariant-loop-found l = record {
  read : column_walk l.column l.opened [] (lexemes_at l.text l.start) ≡ column_walk l.column l.opened (take l.count l.entries) (lexemes_at l.text l.place);
  vector : IsVector (take l.count l.entries);
  column : 0 < l.count → l.column < 12;
  few : l.count ≤ 12;
  room : length l.entries ≡ 12;
  from : l.start ≤ l.place;
  within : l.place ≤ length l.text;
}

abbrev pub decreases-loop-found : goal.decreases-loop-found
decreases-loop-found l = length l.text - l.place
