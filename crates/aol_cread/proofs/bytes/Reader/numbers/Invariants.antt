use Rattle.std.proofs.Common.{◌≡◌, ◌-◌}
use Rattle.aol_cread.specs.Lines.{read_numbers, read_further}
use Rattle.aol_cread.proofs.Loops.{continued}
use Rattle.aol_cread.proofs.bytes.Reader.numbers.Given as goal

abbrev pub invariant-loop-k : goal.invariant-loop-k
invariant-loop-k l = read_numbers l.count l.fn.self.left.now ≡ continued l.numbers (read_further (l.count - l._k) l.self.left.now)
