use Rattle.std.proofs.Common.{◌≡◌, ◌<◌, sum, drop, slice_get}
use Rattle.aol_flat.specs.Instance.{places_of_sizes}
use Rattle.aol_assign.proofs.holes.place_of.Given as goal

abbrev pub invariant-loop-place : goal.invariant-loop-place
invariant-loop-place l = record {
  at : slice_get (places_of_sizes 0 l.sizes) l.number ≡ slice_get (places_of_sizes l.place (drop l.place l.sizes)) l.left;
  within : l.left < sum (drop l.place l.sizes);
}
