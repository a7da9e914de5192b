use Rattle.std.proofs.Common.{◌≡◌, length, ap, arith}
use Rattle.std.proofs.lemmas.Grind.{common_steps}
use Rattle.aol_model_types.specs.Types.{IsInputArray}
use Rattle.aol_model_types.specs.Places.{to_index}
use Rattle.aol_document_reading.specs.Trails.{steps_of}
use Rattle.aol_document_reading.proofs.Elements.{arrays_more, kept_more}
use Rattle.aol_document_reading.proofs.reading.whole.arrays_of.Goals as goal

pub loop-name-preserved : goal.loop-name-preserved
loop-name-preserved c =
    let left = c.in-Some.ensures.steps in
    let pushed = c.in_ok-push.ensures.ok in
    let at = steps_of c.args.at.now in
    let place : to_index at c.len-in-loop-name.result ≡ to_index at (length c.loop-name.arrays) = ap (λ n. to_index at n) c.len-in-loop-name.ensures in
    record {
      count = grind (arith, common_steps);
      read = arrays_more at (to_index at c.len-in-loop-name.result) c.loop-name.arrays c.push.new.self c.loop-name.name-iterator c.next.new.self c.in-Some.name.now c.in-Some.nums.now c.in_ok-array.array _ left pushed place (rw c.as_str.ensures.value at c.in_ok-array.ensures.read) c.loop-name.invariant.read;
      types = rw pushed (kept_more IsInputArray c.loop-name.arrays c.in_ok-array.array c.loop-name.invariant.types c.in_ok-array.ensures.types);
    }
