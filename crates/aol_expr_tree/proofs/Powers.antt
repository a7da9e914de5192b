-- Numbers of at most nineteen digits are in 64 bits.
use Rattle.std.proofs.Common.{ℕ, suc, ◌+◌, ◌*◌, ◌^◌, ◌<◌, ◌≤◌, arith}
use Rattle.std.proofs.Math.Nat.{pow-succ', pow-le-pow_right}

-- one more digit fits
pub digit_fits : (c v : ℕ) → c < 19 → v < 10 ^ c → 10 * v + 9 < 2 ^ 64
digit_fits c v p q =
    let le : 10 ^ suc c ≤ 10 ^ 19 = pow-le-pow_right (omega arith) {i = suc c} {j = 19} (omega arith) in
    omega (arith, pow-succ' 10 c, le, q)
