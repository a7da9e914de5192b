use Rattle.std.proofs.Common.{◌≡◌, ℤ, List, drop}
use Rattle.aol_expr_tree.specs.Meaning.{element}
use Rattle.aol_eval.proofs.pattern.pattern_of.Given as goal

abbrev pub invariant-loop-port : goal.invariant-loop-port
invariant-loop-port l = (at : List ℤ) → element l.ins l.nums l.name at ≡ element (drop l.port-index l.ins) l.rest l.name at
