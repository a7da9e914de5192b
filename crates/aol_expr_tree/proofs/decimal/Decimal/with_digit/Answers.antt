-- One more digit is in 64 bits.
use Rattle.std.proofs.Common.{arith}
use Rattle.aol_expr_tree.proofs.Powers.{digit_fits}
use Rattle.aol_expr_tree.proofs.decimal.Decimal.with_digit.Goals as goal

pub overflow_mul-result : goal.overflow_mul-result
overflow_mul-result c = omega (arith, digit_fits c.self.inside.count c.self.inside.value (omega arith) c.self.invariant.1)

pub overflow_add-result-then-self-most : goal.overflow_add-result-then-self-most
overflow_add-result-then-self-most c = omega (arith, digit_fits c.self.inside.count c.self.inside.value (omega arith) c.self.invariant.1)
