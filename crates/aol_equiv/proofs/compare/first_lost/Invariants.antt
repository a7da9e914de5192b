use Rattle.std.proofs.Common.{ℕ, ◌<◌}
use Rattle.aol_equiv.specs.Compared.{IsKeptAt}
use Rattle.aol_equiv.proofs.compare.first_lost.Given as goal

abbrev pub invariant-loop-number : goal.invariant-loop-number
invariant-loop-number l = (k : ℕ) → k < l.number → IsKeptAt l.sides l.taken l.before k
