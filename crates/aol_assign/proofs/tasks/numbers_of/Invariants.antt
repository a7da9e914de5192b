use Rattle.std.proofs.Common.{◌≡◌, ℕ, ◌≤◌, List, length, drop}
use Rattle.std.specs.BTreeMap.{get_by_text}
use Rattle.aol_flat.specs.Numbered.{number_from}
use Rattle.aol_assign.proofs.tasks.numbers_of.Given as goal

abbrev pub invariant-loop-at : goal.invariant-loop-at
invariant-loop-at l = record {
  within : l.at ≤ length l.tasks;
  found : (q : List ℕ) → get_by_text l.numbers q ≡ number_from l.at (drop l.at l.tasks) q;
}

abbrev pub decreases-loop-at : goal.decreases-loop-at
decreases-loop-at l = l.at
