use Rattle.std.proofs.Common.{◌≡◌, ℕ, ◌<◌, ◌≤◌, length, take, map, get_or, Some, All, Contains}
use Rattle.aol_scatter.specs.Cells.{cell}
use Rattle.aol_level.specs.Made.{IsHand}
use Rattle.aol_level.proofs.claiming.settle_all.Given as goal

-- the jobs that are left are the first n; those after them have their values in the rest, and no other cell has changed
abbrev pub invariant-loop-job : goal.invariant-loop-job
invariant-loop-job l =
    let all = l.fn.jobs.items in let n = length l.jobs.items in
    (l.rest.name ≡ l.fn.rest.name) × (n ≤ length all) × (l.jobs.items ≡ take n all)
    × ((w : ℕ) (d : _) → n ≤ w → w < length all → map (λ k. cell l.rest.cells k) (get_or all w d).share.cells ≡ map Some (get_or all w d).share.values)
    × ((k : ℕ) → ((w : ℕ) (d : _) → n ≤ w → w < length all → ¬ Contains (get_or all w d).share.cells k) → cell l.rest.cells k ≡ cell l.fn.rest.cells k)
    × (length l.rest.cells ≡ length l.fn.rest.cells)
    × ((f : _) → All (IsHand f) l.fn.hands.items → All (λ j. IsHand f j.part.hand) all → All (IsHand f) l.hands.items)

abbrev pub decreases-loop-job : goal.decreases-loop-job
decreases-loop-job l = goal.left-loop-job l
