use Rattle.std.proofs.Common.{◌≡◌, take}
use Rattle.aol_io.specs.Memory.{written_at}
use Rattle.aol_io.proofs.memory.write_over.Given as goal

abbrev pub invariant-loop-k : goal.invariant-loop-k
invariant-loop-k l = l.room ≡ written_at l.initial.room l.place (take l.k l.piece)
