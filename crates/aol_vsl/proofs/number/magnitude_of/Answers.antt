use Rattle.std.proofs.Common.{get_or, sym, ◌∙◌, arith}
use Rattle.aol_vsl.proofs.Runs.{few_digits, digit_most}
use Rattle.aol_vsl.proofs.number.magnitude_of.Goals as goal

pub overflow_mul-value : goal.overflow_mul-value
overflow_mul-value c = omega (arith, few_digits c.loop-byte.value c.loop-byte.byte-index c.loop-byte.invariant.bound (omega arith))

pub overflow_add-value : goal.overflow_add-value
overflow_add-value c = omega (arith, few_digits c.loop-byte.value c.loop-byte.byte-index c.loop-byte.invariant.bound (omega arith), digit_most (get_or c.args.digits.now c.loop-byte.byte-index 0) (sym c.is_digit.ensures ∙ c.if-not-is_digit.false), c.from.ensures)
