use Rattle.std.proofs.Common.{◌≡◌, map}
use Rattle.aol_shape.specs.Lists.{numbers_from}
use Rattle.aol_runner.specs.Outputs.{value_at}
use Rattle.aol_runner.proofs.outputs.values_of.Given as goal

abbrev pub invariant-loop-x : goal.invariant-loop-x
invariant-loop-x l = l.vals.items ≡ map (value_at l.memory) (numbers_from l.first l.x)
