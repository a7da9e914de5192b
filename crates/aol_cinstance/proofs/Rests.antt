-- What is left of a shape behind its first entry has few points.
use Rattle.std.specs.Prelude.{ℕ, ◌*◌, ◌≤◌, List}
use Rattle.std.proofs.Common.{arith}
use Rattle.std.proofs.Math.Nat.{mul-le-mul_right}
use Rattle.aol_shape.specs.Shape.{size}

pub rest_few : (n k : ℕ) (shape : List ℕ) → 1 ≤ n → n * size shape ≤ k → size shape ≤ k
rest_few n k shape some few = let more : 1 * size shape ≤ n * size shape = mul-le-mul_right (size shape) some in omega arith
