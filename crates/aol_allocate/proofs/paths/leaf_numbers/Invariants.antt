use Rattle.std.proofs.Common.{◌≡◌, ℕ, ◌≤◌, List, length, drop}
use Rattle.std.specs.BTreeMap.{get_by_text}
use Rattle.aol_flat.specs.Instance.{leaves}
use Rattle.aol_allocate.specs.Placement.{leaf_from}
use Rattle.aol_allocate.proofs.paths.leaf_numbers.Given as goal

abbrev pub invariant-loop-at : goal.invariant-loop-at
invariant-loop-at l = record {
  within : l.at ≤ length (leaves l.flat.model);
  found : (q : List ℕ) → get_by_text l.numbers q ≡ leaf_from l.flat.model l.at (drop l.at (leaves l.flat.model)) q;
}

abbrev pub decreases-loop-at : goal.decreases-loop-at
decreases-loop-at l = l.at
