use Rattle.std.proofs.Common.{take}
use Rattle.aol_flat.specs.Cursor.{ArePortReads}
use Rattle.aol_flat.proofs.flat.Flat.reads_at_port.Given as goal

-- those so far are right
abbrev pub invariant-loop-x : goal.invariant-loop-x
invariant-loop-x l = ArePortReads l.self l.node l.port l.at (take l.x l.into)
