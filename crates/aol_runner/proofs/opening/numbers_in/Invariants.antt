use Rattle.std.proofs.Common.{◌≡◌, length, take}
use Rattle.aol_flat.specs.Net.{flat_inputs}
use Rattle.aol_runner.proofs.opening.numbers_in.Given as goal

-- the numbers so far are counted
abbrev pub invariant-loop-input : goal.invariant-loop-input
invariant-loop-input l = l.count ≡ length (flat_inputs (take l.input-index l.inputs))
