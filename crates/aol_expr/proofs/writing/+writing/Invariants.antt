use Rattle.std.proofs.Common.{◌≡◌, ◌++◌, take, string_bytes}
use Rattle.aol_expr.proofs.Joined.{after_commas}
use Rattle.aol_expr.proofs.writing.+writing.Given as goal

abbrev pub invariant-append_indices-loop-node : goal.invariant-append_indices-loop-node
invariant-append_indices-loop-node l = string_bytes l.text ≡ string_bytes l.initial.text ++ after_commas (take l.node-index l.others)
