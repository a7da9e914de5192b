use Rattle.std.proofs.Common.{◌≡◌, ◌-◌, ◌≤◌, drop, Ok, ◌∷◌}
use Rattle.aol_eval.specs.Frames.{numbers_of}
use Rattle.aol_expr_tree.specs.Meaning.{summed}
use Rattle.aol_eval.specs.Places.{IsPlace}
use Rattle.aol_eval.specs.Resolved.{plan_of, plans_of, run, element_at}
use Rattle.aol_eval.proofs.Plans.{run_on}
use Rattle.aol_eval.proofs.run.+run.Given as goal

abbrev pub invariant-element-loop-index : goal.invariant-element-loop-index
invariant-element-loop-index l = record {
  place : IsPlace l.place;
  left : run l.nums l.at (numbers_of l.vars) (element_at l.shape l.start (plans_of l.indices)) ≡ run_on l.nums l.at (numbers_of l.vars) l.start l.place (plans_of (drop l.index-index l.indices));
}

abbrev pub invariant-sum-blocks-2 : goal.invariant-sum-blocks-2
invariant-sum-blocks-2 l = record {
  so_far : summed (λ k. run l.nums l.at (k ∷ numbers_of l.vars) (plan_of l.term)) l.from ≡ Ok l.sum;
  within : l.from ≤ l.terms;
}

abbrev pub decreases-sum-blocks-2 : goal.decreases-sum-blocks-2
decreases-sum-blocks-2 l = l.terms - l.from

abbrev pub invariant-sum_one_by_one-loop-k : goal.invariant-sum_one_by_one-loop-k
invariant-sum_one_by_one-loop-k l = summed (λ k. run l.nums l.at (k ∷ numbers_of l.vars) (plan_of l.term)) l.k ≡ Ok l.sum
