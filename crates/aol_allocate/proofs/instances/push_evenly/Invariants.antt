use Rattle.std.proofs.Common.{◌≡◌, ◌++◌, map}
use Rattle.aol_shape.specs.Lists.{numbers_below}
use Rattle.aol_allocate.specs.Placement.{even_worker}
use Rattle.aol_allocate.proofs.instances.push_evenly.Given as goal

abbrev pub invariant-loop-rank : goal.invariant-loop-rank
invariant-loop-rank l = l.of_instance.items ≡ l.initial.of_instance.items ++ map (even_worker l.workers l.count) (numbers_below l.rank)
