use Rattle.std.proofs.Common.{length}
use Rattle.aol_assign.proofs.apart.+each_moves.Given as goal

abbrev pub decreases-each_moves : goal.decreases-each_moves
decreases-each_moves l = length l.columns.now
