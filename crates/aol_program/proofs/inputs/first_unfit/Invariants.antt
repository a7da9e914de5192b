use Rattle.std.proofs.Common.{◌≡◌, drop}
use Rattle.aol_program.specs.Inputs.{first_unfit}
use Rattle.aol_program.proofs.inputs.first_unfit.Given as goal

-- the ports so far are given
abbrev pub invariant-loop-port : goal.invariant-loop-port
invariant-loop-port l = first_unfit l.inputs l.ports ≡ first_unfit l.inputs (drop l.port-index l.ports)
