use Rattle.std.proofs.Common.{◌≡◌, ◌<◌, ℕ, Some, slice_get}
use Rattle.aol_depend.specs.declared.search.Mark.TheVariants.{Doomed}
use Rattle.aol_depend.proofs.search.Search.first_doomed.Given as goal

abbrev pub invariant-loop-instance : goal.invariant-loop-instance
invariant-loop-instance l = (j : ℕ) → j < l.instance → slice_get l.self.marks.items j ≡ Some Doomed → ⊥
