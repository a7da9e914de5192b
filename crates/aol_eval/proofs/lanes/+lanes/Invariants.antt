use Rattle.std.proofs.Common.{◌≡◌, ℕ, ◌+◌, ◌<◌, pos, ◌∷◌, length, drop, get_or, Ok}
use Rattle.aol_expr_tree.specs.Meaning.{summed}
use Rattle.aol_eval.specs.Lanes.{numbers_in}
use Rattle.aol_eval.specs.Resolved.{plan_of, plans_of, run, element_at}
use Rattle.aol_eval.proofs.LaneSteps.{read_on}
use Rattle.aol_eval.proofs.lanes.+lanes.Given as goal

abbrev pub invariant-fill_read-loop-index : goal.invariant-fill_read-loop-index
invariant-fill_read-loop-index l = (i : ℕ) → i < length l.ranks →
    run l.nums l.at (numbers_in l.lanes (pos (l.from + i))) (element_at l.shape l.start (plans_of l.indices)) ≡ read_on l.nums l.at (numbers_in l.lanes (pos (l.from + i))) l.start l.entries (get_or l.ranks i 0) (plans_of (drop l.index-index l.indices))

abbrev pub invariant-fill_sum-loop-k : goal.invariant-fill_sum-loop-k
invariant-fill_sum-loop-k l = (i : ℕ) → i < length l.out →
    summed (λ k. run l.nums l.at (k ∷ numbers_in l.lanes (pos (l.from + i))) (plan_of l.term)) l.k ≡ Ok (get_or l.out i (pos 0))
