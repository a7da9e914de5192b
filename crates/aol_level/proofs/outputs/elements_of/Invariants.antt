use Rattle.std.proofs.Common.{◌≡◌, take}
use Rattle.aol_level.specs.Puts.{elements}
use Rattle.aol_level.proofs.outputs.elements_of.Given as goal

abbrev pub invariant-loop-out : goal.invariant-loop-out
invariant-loop-out l = l.count ≡ elements (take l.out-index l.outs)
