use Rattle.std.proofs.Common.{◌≡◌, ◌≤◌, ◌-◌, [], None, length}
use Rattle.std.specs.List.{AllByRecursion}
use Rattle.aol_shape.specs.Vectors.{IsVector}
use Rattle.aol_vsl.specs.Number.{lexemes_at}
use Rattle.aol_vsl.specs.Walk.{matrix_walk}
use Rattle.aol_vsl.proofs.tiler.matrix_from.Given as goal

abbrev pub invariant-loop-found : goal.invariant-loop-found
invariant-loop-found l = record {
  read : matrix_walk None [] (lexemes_at l.text l.start) ≡ matrix_walk None l.columns (lexemes_at l.text l.place);
  few : length l.columns ≤ 12;
  vectors : AllByRecursion IsVector l.columns;
  within : l.place ≤ length l.text;
}

abbrev pub decreases-loop-found : goal.decreases-loop-found
decreases-loop-found l = length l.text - l.place
