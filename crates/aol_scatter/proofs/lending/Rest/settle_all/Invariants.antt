use Rattle.std.proofs.Common.{◌≡◌, ℕ, ◌<◌, ◌≤◌, length, take, map, get_or, Some, Contains}
use Rattle.aol_scatter.specs.Cells.{cell}
use Rattle.aol_scatter.proofs.lending.Rest.settle_all.Given as goal

-- the shares that are left are the first n; those after them have their values in the rest, and no other cell has changed
abbrev pub invariant-loop-share : goal.invariant-loop-share
invariant-loop-share g l =
    let all = l.fn.shares.items in let n = length l.shares.items in
    (l.self.name ≡ l.fn.self.name) × (n ≤ length all) × (l.shares.items ≡ take n all)
    × ((w : ℕ) (d : _) → n ≤ w → w < length all → map (λ k. cell l.self.cells k) (get_or all w d).cells ≡ map Some (get_or all w d).values)
    × ((k : ℕ) → ((w : ℕ) (d : _) → n ≤ w → w < length all → ¬ Contains (get_or all w d).cells k) → cell l.self.cells k ≡ cell l.fn.self.cells k)
    × (length l.self.cells ≡ length l.fn.self.cells)

abbrev pub decreases-loop-share : goal.decreases-loop-share
decreases-loop-share g l = goal.left-loop-share g l
