use Rattle.std.proofs.Common.{◌≡◌, take}
use Rattle.aol_flat.specs.Instance.{places_of_sizes, port_sizes}
use Rattle.aol_equiv.proofs.places.spots_of.Given as goal

abbrev pub invariant-loop-number : goal.invariant-loop-number
invariant-loop-number l = l.spots.items ≡ places_of_sizes 0 (port_sizes (take l.number l.ports))
