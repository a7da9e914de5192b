use Rattle.aol_shape.specs.Vectors.{plus_columns}
use Rattle.aol_tiler.proofs.Narrowed.{Narrowed}
use Rattle.aol_tiler.proofs.columns.combined.Given as goal

abbrev pub invariant-loop-k : goal.invariant-loop-k
invariant-loop-k l = Narrowed l.place (plus_columns l.start l.columns l.numbers) l.entries l.k
