use Rattle.std.proofs.Common.{◌≡◌, ◌≤◌, ◌-◌, length, take}
use Rattle.aol_vsl.specs.Number.{lexemes_at}
use Rattle.aol_vsl.specs.Reading.{vector_reading}
use Rattle.aol_vsl.proofs.Entries.{vector_walk}
use Rattle.aol_vsl.proofs.vector.vector_of.Given as goal

abbrev pub invariant-loop-found : goal.invariant-loop-found
invariant-loop-found l = record {
  read : vector_reading l.text ≡ vector_walk l.count (take l.count l.entries) (lexemes_at l.text l.place);
  few : l.count ≤ 12;
  room : length l.entries ≡ 12;
  within : l.place ≤ length l.text;
}

abbrev pub decreases-loop-found : goal.decreases-loop-found
decreases-loop-found l = length l.text - l.place
