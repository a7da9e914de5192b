use Rattle.std.proofs.Common.{◌≡◌, ◌≤◌, ◌-◌, length, take}
use Rattle.aol_vsl.specs.Number.{lexemes_at}
use Rattle.aol_vsl.specs.Reading.{shape_reading}
use Rattle.aol_vsl.proofs.Entries.{shape_walk}
use Rattle.aol_vsl.proofs.vector.shape_of.Given as goal

abbrev pub invariant-loop-found : goal.invariant-loop-found
invariant-loop-found l = record {
  read : shape_reading l.text ≡ shape_walk (l.count, l.points) (take l.count l.entries) (lexemes_at l.text l.place);
  few : l.count ≤ 12;
  small : l.points ≤ 4194304;
  room : length l.entries ≡ 12;
  within : l.place ≤ length l.text;
}

abbrev pub decreases-loop-found : goal.decreases-loop-found
decreases-loop-found l = length l.text - l.place
