use Rattle.std.proofs.Common.{◌+◌, ◌*◌}
use Rattle.aol_cread.proofs.bytes.Reader.+expression.Given as goal

abbrev pub decreases-expr : goal.decreases-expr
decreases-expr l = 4 * l.room

abbrev pub decreases-closed : goal.decreases-closed
decreases-closed l = 4 * l.room + 1

abbrev pub decreases-entry : goal.decreases-entry
decreases-entry l = 4 * l.room + 2

abbrev pub decreases-bin : goal.decreases-bin
decreases-bin l = 4 * l.room + 2

abbrev pub decreases-deeper : goal.decreases-deeper
decreases-deeper l = 4 * l.room + 3
