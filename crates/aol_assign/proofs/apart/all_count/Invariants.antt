use Rattle.std.proofs.Common.{◌<◌, ℕ}
use Rattle.aol_assign.specs.Apart.{CountsIn}
use Rattle.aol_assign.proofs.apart.all_count.Given as goal

abbrev pub invariant-loop-k : goal.invariant-loop-k
invariant-loop-k l = (k : ℕ) → k < l.k → CountsIn l.member.tiler.now l.array l.member.space.now l.member.pattern.now k
