use Rattle.std.proofs.Common.{◌≡◌, take, string_bytes}
use Rattle.std.specs.List.{flat_map}
use Rattle.aol_program.specs.Outputs.{array_line}
use Rattle.aol_program.proofs.printed.lines_of.Given as goal

-- the lines so far
abbrev pub invariant-loop-output : goal.invariant-loop-output
invariant-loop-output l = string_bytes l.text ≡ flat_map array_line (take l.output-index l.outputs)
