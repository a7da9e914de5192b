-- Digits while they are read.
use Rattle.std.specs.Prelude.{ℕ, ◌+◌, ◌-◌, ◌*◌, ℤ, pos, neg_ℤ, Bool, nat_le, nat_lt, ◌&&◌, Option, Some, None, if◌then◌else◌}
use Rattle.aol_shape.specs.Numbers.{fits_64}
use Rattle.aol_expr_tree.specs.Digits.{DigitsOf}
use Rattle.aol_expr_tree.specs.Tree.{is_bound, max_terms}

-- no digits yet
abbrev pub no_digits : DigitsOf
no_digits = record { count = 0; value = 0 }

-- one more digit, where that makes no more than `most`
abbrev pub with_digit : ℕ → DigitsOf → ℕ → Option DigitsOf
with_digit most d b = if nat_lt d.count most then Some (record { count = d.count + 1; value = 10 * d.value + (b - 48) }) else None

-- one digit
abbrev pub one_digit : ℕ → DigitsOf
one_digit b = record { count = 1; value = b - 48 }

-- the number that the digits say
abbrev pub signed : Bool → DigitsOf → ℤ
signed negative d = if negative then neg_ℤ (pos d.value) else pos d.value

-- the number where it is in 64 bits
abbrev pub in_64 : ℤ → Option ℤ
in_64 z = if fits_64 z then Some z else None

-- the bound where a sum inside sums with so many terms can have it
abbrev pub in_bounds : ℕ → ℕ → Option ℕ
in_bounds around n = if nat_le n max_terms && is_bound around n then Some n else None
