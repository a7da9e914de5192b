use Rattle.std.proofs.Common.{◌≡◌, drop}
use Rattle.aol_program.specs.Inputs.{first_unknown}
use Rattle.aol_program.proofs.inputs.first_unknown.Given as goal

-- the arrays so far are those of ports
abbrev pub invariant-loop-array : goal.invariant-loop-array
invariant-loop-array l = first_unknown l.ports l.inputs ≡ first_unknown l.ports (drop l.array-index l.inputs)
