-- Numbers of pairs.
use Rattle.std.proofs.Common.{ℕ, ◌*◌, ◌/◌, ◌<◌, ◌≤◌, arith}
use Rattle.std.proofs.Math.Nat.{div-lt_iff_lt-mul}

-- a quotient is below the other factor
pub quotient_below : (x s p : ℕ) → 1 ≤ p → x < s * p → x / p < s
quotient_below x s p h k = let f : 0 < p = omega (arith, h) in (div-lt_iff_lt-mul {k = p} {x = x} {y = s} f).1 k
