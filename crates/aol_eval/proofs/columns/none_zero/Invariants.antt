use Rattle.std.proofs.Common.{◌≡◌, ℕ, ◌<◌, pos, get_or, false}
use Rattle.aol_expr_tree.specs.Meaning.{is_zero}
use Rattle.aol_eval.proofs.columns.none_zero.Given as goal

abbrev pub invariant-loop-z : goal.invariant-loop-z
invariant-loop-z l = (i : ℕ) → i < l.z-index → is_zero (get_or l.column i (pos 0)) ≡ false
