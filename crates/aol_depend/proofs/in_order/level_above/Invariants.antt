use Rattle.std.proofs.Common.{take}
use Rattle.aol_depend.specs.InOrder.{IsAbove}
use Rattle.aol_depend.proofs.in_order.level_above.Given as goal

abbrev pub invariant-loop-read : goal.invariant-loop-read
invariant-loop-read l = IsAbove l.levels l.writer_of (take l.read-index l.reads) l.level
