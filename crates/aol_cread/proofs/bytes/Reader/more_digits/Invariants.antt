use Rattle.std.proofs.Common.{◌≡◌, ◌<◌, length}
use Rattle.aol_cread.specs.Bytes.{more_digits}
use Rattle.aol_cread.proofs.bytes.Reader.more_digits.Given as goal

abbrev pub invariant-loop-b : goal.invariant-loop-b
invariant-loop-b l = record {
  same : more_digits l.limit l.first l.initial.self.left.now ≡ more_digits l.limit l.n l.self.left.now;
  below : l.n < l.limit;
}

abbrev pub decreases-loop-b : goal.decreases-loop-b
decreases-loop-b l = length l.self.left.now
