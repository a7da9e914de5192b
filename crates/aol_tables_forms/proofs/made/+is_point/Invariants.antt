use Rattle.std.proofs.Common.{length}
use Rattle.aol_tables_forms.proofs.made.+is_point.Given as goal

abbrev pub decreases-is_point : goal.decreases-is_point
decreases-is_point l = length l.shape.now
