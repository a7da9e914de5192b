use Rattle.std.proofs.Common.{◌∙◌, length, ap, arith}
use Rattle.aol_model_types.specs.declared.job.InputArray.{InputArray}
use Rattle.aol_runner.proofs.FirstCells.{next_fits, count_next, array_put}
use Rattle.aol_runner.proofs.opening.put_arrays.Goals as goal

pub put_numbers-requires-clause-room : goal.put_numbers-requires-clause-room
put_numbers-requires-clause-room c =
    let fits = next_fits c.args.inputs.now c.loop-input.input-index c.input-item.result c.loop-input-test.true in
    let same = ap (λ (a : InputArray). length a.nums) c.input-item.is in
    let given = ap length c.as_slice.ensures in
    let cells = ap length c.loop-input.invariant.cells in
    omega (arith, fits, same, given, cells, c.loop-input.invariant.place, c.requires.room)

pub overflow_cast-place : goal.overflow_cast-place
overflow_cast-place c =
    let fits = next_fits c.args.inputs.now c.loop-input.input-index c.input-item.result c.loop-input-test.true in
    let same = ap (λ (a : InputArray). length a.nums) c.input-item.is in
    omega (arith, fits, same, c.len.ensures, c.requires.room, c.requires.few)

pub overflow_add-place : goal.overflow_add-place
overflow_add-place c =
    let fits = next_fits c.args.inputs.now c.loop-input.input-index c.input-item.result c.loop-input-test.true in
    let same = ap (λ (a : InputArray). length a.nums) c.input-item.is in
    omega (arith, fits, same, c.len.ensures, c.loop-input.invariant.place, c.requires.room, c.requires.few)

pub loop-input-preserved : goal.loop-input-preserved
loop-input-preserved c = record {
  name = c.put_numbers.ensures.same.0 ∙ c.loop-input.invariant.name;
  cells = c.put_numbers.ensures.same.1 ∙ c.loop-input.invariant.cells;
  place = (let next = count_next c.args.inputs.now c.loop-input.input-index c.input-item.result c.loop-input-test.true in
      let same = ap (λ (a : InputArray). length a.nums) c.input-item.is in
      omega (arith, next, same, c.len.ensures, c.loop-input.invariant.place));
  values = array_put c.args.share.now.values c.loop-input.share.values c.put_numbers.new.share.values c.loop-input.place c.loop-input.input-index c.args.inputs.now c.as_slice.result.now c.input-item.result
      c.loop-input-test.true (c.as_slice.ensures ∙ ap (λ (a : InputArray). a.nums) c.input-item.is) c.loop-input.invariant.place c.loop-input.invariant.values c.put_numbers.ensures.values;
}
