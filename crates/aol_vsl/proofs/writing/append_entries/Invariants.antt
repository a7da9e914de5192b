use Rattle.std.proofs.Common.{◌≡◌, ◌++◌, ◌∷◌, take, map, string_bytes}
use Rattle.aol_vsl.proofs.Written.{opened}
use Rattle.aol_vsl.proofs.writing.append_entries.Given as goal

abbrev pub invariant-loop-before : goal.invariant-loop-before
invariant-loop-before g l = string_bytes l.text ≡ string_bytes l.fn.text ++ opened (map g.I.Integer.text (take l.before l.entries))
