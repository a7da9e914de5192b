use Rattle.std.proofs.Common.{◌≡◌, drop}
use Rattle.aol_eval.specs.Lanes.{added_up}
use Rattle.aol_eval.proofs.columns.add_up.Given as goal

abbrev pub invariant-loop-z : goal.invariant-loop-z
invariant-loop-z l = added_up l.fn.sum l.column ≡ added_up l.sum (drop l.z-index l.column)
