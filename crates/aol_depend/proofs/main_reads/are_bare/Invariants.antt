use Rattle.std.proofs.Common.{◌≡◌, ◌<◌, ℕ, Some, None, slice_get}
use Rattle.aol_depend.proofs.main_reads.are_bare.Given as goal

abbrev pub invariant-loop-cell : goal.invariant-loop-cell
invariant-loop-cell l = (c : ℕ) → c < l.cell → slice_get l.writer_of c ≡ Some None
