use Rattle.std.proofs.Common.{◌≡◌, drop}
use Rattle.aol_flat.specs.InstanceValue.{first_fault}
use Rattle.aol_program.proofs.printed.fault_among.Given as goal

-- no value so far is a fault
abbrev pub invariant-loop-value : goal.invariant-loop-value
invariant-loop-value l = first_fault l.values ≡ first_fault (drop l.value-index l.values)
