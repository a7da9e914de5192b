use Rattle.std.proofs.Common.{◌≡◌, ℕ, ◌<◌, pos, get_or}
use Rattle.aol_eval.specs.Lines.{number_on}
use Rattle.aol_eval.proofs.columns.fill_line.Given as goal

abbrev pub invariant-loop-k : goal.invariant-loop-k
invariant-loop-k l = (i : ℕ) → i < l.k → get_or l.out i (pos 0) ≡ number_on l.line i
