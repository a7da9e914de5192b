use Rattle.std.proofs.Common.{◌≡◌, ◌++◌, drop}
use Rattle.aol_paving.proofs.tilers.push_columns.Given as goal

abbrev pub invariant-loop-column : goal.invariant-loop-column
invariant-loop-column l = l.initial.into ++ l.columns ≡ l.into ++ drop l.column-index l.columns
