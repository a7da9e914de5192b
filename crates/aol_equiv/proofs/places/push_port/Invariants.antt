use Rattle.std.proofs.Common.{◌≡◌, ◌++◌, map, ℕ}
use Rattle.aol_shape.specs.Lists.{numbers_below}
use Rattle.aol_equiv.proofs.places.push_port.Given as goal

abbrev pub invariant-loop-rank : goal.invariant-loop-rank
invariant-loop-rank l = l.spots.items ≡ l.initial.spots.items ++ map (λ (x : ℕ). (l.port, x)) (numbers_below l.rank)
