use Rattle.std.proofs.Common.{◌≡◌, ℕ, ◌+◌, ◌<◌, pos, get_or}
use Rattle.aol_eval.proofs.columns.fill_from.Given as goal

abbrev pub invariant-loop-z : goal.invariant-loop-z
invariant-loop-z l = record {
  next : l.next ≡ pos (l.first + l.z-index);
  filled : (k : ℕ) → k < l.z-index → get_or l.out k (pos 0) ≡ pos (l.first + k);
}
