use Rattle.std.proofs.Common.{◌≡◌, ℕ, ◌<◌, pos, get_or}
use Rattle.aol_expr_tree.specs.Meaning.{nth_number}
use Rattle.aol_eval.proofs.columns.gather.Given as goal

abbrev pub invariant-loop-k : goal.invariant-loop-k
invariant-loop-k l = (i : ℕ) → i < l.k → get_or l.out i (pos 0) ≡ nth_number l.nums (get_or l.ranks i 0)
