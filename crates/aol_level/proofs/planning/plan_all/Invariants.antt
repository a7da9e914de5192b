use Rattle.std.proofs.Common.{◌≡◌, ◌++◌, flat_map, length, All}
use Rattle.aol_level.specs.Made.{IsHand, IsListing}
use Rattle.aol_level.specs.Parts.{AreInstances, IsPlan}
use Rattle.aol_level.proofs.planning.plan_all.Given as goal

abbrev pub invariant-loop-first : goal.invariant-loop-first
invariant-loop-first l = record {
  within : AreInstances l.flat l.left;
  listing : IsListing l.flat l.listing;
  hands : All (IsHand l.flat) l.hands.items;
  all : flat_map (λ p. p.part.instances.now) l.plans.items ++ l.left ≡ l.at_once;
  each : All (IsPlan l.flat l.placed.of_instance) l.plans.items;
}

abbrev pub decreases-loop-first : goal.decreases-loop-first
decreases-loop-first l = length l.left
