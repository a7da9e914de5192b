use Rattle.std.proofs.Common.{◌≡◌, ℕ, ◌+◌, ◌*◌, ◌<◌, ◌≤◌, pos, get_or}
use Rattle.aol_expr_tree.specs.Meaning.{nth_number}
use Rattle.aol_eval.specs.Lines.{rank_in_lane}
use Rattle.aol_eval.proofs.lines.take.Given as goal

abbrev pub invariant-loop-k : goal.invariant-loop-k
invariant-loop-k l = record {
  here : l.rank ≡ l.ranks.first + l.ranks.step * l.k;
  small : l.rank ≤ 4294967296 * (l.k + 1);
  done : (i : ℕ) → i < l.k → get_or l.out i (pos 0) ≡ nth_number l.nums (rank_in_lane l.ranks i);
}
