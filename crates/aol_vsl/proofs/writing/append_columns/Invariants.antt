use Rattle.std.proofs.Common.{◌≡◌, ◌++◌, take, map, string_bytes}
use Rattle.aol_vsl.specs.Text.{vector_text}
use Rattle.aol_vsl.proofs.Written.{opened}
use Rattle.aol_vsl.proofs.writing.append_columns.Given as goal

abbrev pub invariant-loop-before : goal.invariant-loop-before
invariant-loop-before l = string_bytes l.text ≡ string_bytes l.fn.text ++ opened (map vector_text (take l.before l.columns))
