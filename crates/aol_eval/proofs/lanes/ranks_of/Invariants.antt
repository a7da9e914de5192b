use Rattle.std.proofs.Common.{◌≡◌, ℕ, ◌+◌, ◌<◌, ℤ, pos, List, drop}
use Rattle.aol_eval.specs.Lanes.{numbers_in}
use Rattle.aol_eval.specs.Lines.{rank_in_lane}
use Rattle.aol_eval.specs.Resolved.{plans_of, run, element_at}
use Rattle.aol_eval.proofs.LaneSteps.{read_on}
use Rattle.aol_eval.proofs.lanes.ranks_of.Given as goal

abbrev pub invariant-loop-index : goal.invariant-loop-index
invariant-loop-index l = (nums : List ℤ) (start i : ℕ) → i < l.count →
    run nums l.at (numbers_in l.lanes (pos (l.from + i))) (element_at l.shape start (plans_of l.indices)) ≡ read_on nums l.at (numbers_in l.lanes (pos (l.from + i))) start l.entries (rank_in_lane l.ranks i) (plans_of (drop l.index-index l.indices))
