use Rattle.std.proofs.Common.{length, ap, arith}
use Rattle.aol_model_types.specs.declared.job.InputArray.{InputArray}
use Rattle.aol_runner.proofs.FirstCells.{next_fits, count_next}
use Rattle.aol_runner.proofs.opening.numbers_in.Goals as goal

pub overflow_cast-count : goal.overflow_cast-count
overflow_cast-count c =
    let fits = next_fits c.args.inputs.now c.loop-input.input-index c.input-item.result c.loop-input-test.true in
    let same = ap (λ (a : InputArray). length a.nums) c.input-item.is in
    omega (arith, fits, same, c.len.ensures, c.requires)

pub overflow_add-count : goal.overflow_add-count
overflow_add-count c =
    let fits = next_fits c.args.inputs.now c.loop-input.input-index c.input-item.result c.loop-input-test.true in
    let same = ap (λ (a : InputArray). length a.nums) c.input-item.is in
    omega (arith, fits, same, c.len.ensures, c.requires, c.loop-input.invariant)

pub loop-input-preserved : goal.loop-input-preserved
loop-input-preserved c =
    let next = count_next c.args.inputs.now c.loop-input.input-index c.input-item.result c.loop-input-test.true in
    let same = ap (λ (a : InputArray). length a.nums) c.input-item.is in
    omega (arith, next, same, c.len.ensures, c.loop-input.invariant)
