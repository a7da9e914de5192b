-- Digits while they are read.
use Rattle.std.specs.Prelude.{ℕ}

-- how many digits there are, and what they say
pub record DigitsOf : Type 0 where
  pub count : ℕ
  pub value : ℕ
