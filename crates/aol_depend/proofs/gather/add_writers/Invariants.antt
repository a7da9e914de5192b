use Rattle.std.proofs.Common.{◌≡◌, ◌++◌, take}
use Rattle.aol_flat.specs.Level.{writers_read}
use Rattle.aol_depend.proofs.gather.add_writers.Given as goal

abbrev pub invariant-loop-read : goal.invariant-loop-read
invariant-loop-read l = l.list.items ≡ l.fn.list.items ++ writers_read l.writer_of (take l.read-index l.reads)
