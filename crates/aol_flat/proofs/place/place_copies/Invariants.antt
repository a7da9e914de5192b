use Rattle.std.proofs.Common.{◌≡◌, ℕ, ◌++◌, map}
use Rattle.aol_shape.specs.Lists.{numbers_below}
use Rattle.aol_flat.specs.Leaves.{narrowed}
use Rattle.aol_flat.proofs.place.place_copies.Given as goal

abbrev pub invariant-loop-number : goal.invariant-loop-number
invariant-loop-number l =
    (l.table.rows ≡ l.initial.table.rows) × (l.table.spots ≡ l.initial.table.spots ++ map (λ (k : ℕ). record { node = l.node; reshape = narrowed k }) (numbers_below l.number))
