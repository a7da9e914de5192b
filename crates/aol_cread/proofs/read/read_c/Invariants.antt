use Rattle.std.proofs.Common.{length}
use Rattle.aol_cread.specs.Stored.{state_of}
use Rattle.aol_cread.proofs.Whole.{IsRead}
use Rattle.aol_cread.proofs.read.read_c.Given as goal

abbrev pub invariant-loop-reader : goal.invariant-loop-reader
invariant-loop-reader l = IsRead l.text (state_of l.building) l.reader.left.now l.line

abbrev pub decreases-loop-reader : goal.decreases-loop-reader
decreases-loop-reader l = length l.reader.left.now
