use Rattle.std.proofs.Common.{◌≡◌, drop}
use Rattle.aol_flat.specs.InstanceValue.{first_fault}
use Rattle.aol_program.specs.Outputs.{values_of}
use Rattle.aol_program.proofs.printed.first_fault.Given as goal

-- no output so far has a fault
abbrev pub invariant-loop-output : goal.invariant-loop-output
invariant-loop-output l = first_fault (values_of l.outputs) ≡ first_fault (values_of (drop l.output-index l.outputs))
