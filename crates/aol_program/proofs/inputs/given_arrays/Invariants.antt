use Rattle.std.proofs.Common.{◌≡◌, take}
use Rattle.aol_program.specs.Inputs.{given_arrays}
use Rattle.aol_program.proofs.inputs.given_arrays.Given as goal

-- the arrays of the ports so far
abbrev pub invariant-loop-port : goal.invariant-loop-port
invariant-loop-port l = l.arrays ≡ given_arrays l.inputs (take l.port-index l.ports)
