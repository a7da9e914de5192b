use Rattle.std.proofs.Common.{◌≡◌, ℕ, ◌<◌, pos, get_or}
use Rattle.aol_eval.proofs.columns.fill_same.Given as goal

abbrev pub invariant-loop-z : goal.invariant-loop-z
invariant-loop-z l = (k : ℕ) → k < l.z-index → get_or l.out k (pos 0) ≡ l.number
