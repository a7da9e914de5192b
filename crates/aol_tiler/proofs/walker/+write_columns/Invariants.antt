use Rattle.std.proofs.Common.{length}
use Rattle.aol_tiler.proofs.walker.+write_columns.Given as goal

abbrev pub decreases-write_columns : goal.decreases-write_columns
decreases-write_columns l = length l.vectors.now
