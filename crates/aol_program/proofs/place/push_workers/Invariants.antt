use Rattle.std.proofs.Common.{◌≡◌, ◌++◌, take, drop, string_bytes}
use Rattle.std.specs.List.{flat_map}
use Rattle.aol_program.specs.Placed.{worker_text}
use Rattle.aol_program.proofs.place.push_workers.Given as goal

abbrev pub invariant-loop-instance : goal.invariant-loop-instance
invariant-loop-instance l = string_bytes l.text ≡ string_bytes l.fn.text ++ flat_map worker_text (take l.instance (drop l.base l.placed.of_instance))
