use Rattle.std.proofs.Common.{◌≡◌, ◌+◌, [], length, take}
use Rattle.aol_model_types.specs.Rules.{outputs_of}
use Rattle.aol_flat.specs.Place.{elements_of}
use Rattle.aol_runner.specs.Outputs.{taken_outputs}
use Rattle.aol_runner.proofs.outputs.take_ports.Given as goal

-- the outputs so far are taken, and the next one begins here
abbrev pub invariant-loop-k : goal.invariant-loop-k
invariant-loop-k l = record {
  taken : l.outputs.items ≡ taken_outputs l.memory l.first (take l.k (outputs_of l.task));
  place : l.at ≡ l.first + length (elements_of [] (take l.k (outputs_of l.task)));
}
