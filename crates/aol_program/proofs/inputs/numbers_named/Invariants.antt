use Rattle.std.proofs.Common.{◌≡◌, drop}
use Rattle.aol_flat.specs.Inputs.{numbers_named}
use Rattle.aol_program.proofs.inputs.numbers_named.Given as goal

-- no array so far has the name
abbrev pub invariant-loop-array : goal.invariant-loop-array
invariant-loop-array l = numbers_named l.inputs l.name ≡ numbers_named (drop l.array-index l.inputs) l.name
