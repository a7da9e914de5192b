use Rattle.std.proofs.Common.{◌≡◌, take, string_bytes}
use Rattle.aol_flat.specs.Instance.{leaves}
use Rattle.aol_program.specs.Placed.{leaf_lines}
use Rattle.aol_program.proofs.place.lines_of.Given as goal

abbrev pub invariant-loop-number : goal.invariant-loop-number
invariant-loop-number l = string_bytes l.text ≡ leaf_lines l.flat.model l.placed.of_instance (take l.number (leaves l.flat.model))
