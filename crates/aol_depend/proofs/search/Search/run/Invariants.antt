use Rattle.std.proofs.Common.{◌≡◌, ◌<◌, ℕ, [], Some, slice_get}
use Rattle.aol_depend.specs.declared.search.Mark.TheVariants.{New}
use Rattle.aol_depend.specs.Search.{IsSearch}
use Rattle.aol_depend.proofs.search.Search.run.Given as goal

abbrev pub invariant-loop-instance : goal.invariant-loop-instance
invariant-loop-instance l = record {
  state : IsSearch l.needs l.self;
  path : l.self.path.items ≡ [];
  old : (j : ℕ) → j < l.instance → slice_get l.self.marks.items j ≡ Some New → ⊥;
}
