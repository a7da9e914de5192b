use Rattle.std.proofs.Common.{◌≡◌, take, slice_index, All}
use Rattle.aol_level.proofs.planning.count_of.Given as goal

abbrev pub invariant-loop-place : goal.invariant-loop-place
invariant-loop-place l = All (λ j. slice_index l.placed.of_instance j ≡ l.worker) (take l.place l.numbers)
