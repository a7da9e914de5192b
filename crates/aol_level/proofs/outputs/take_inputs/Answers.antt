use Rattle.std.proofs.Common.{◌∙◌, length, arith, ap, length-set}
use Rattle.aol_flat.specs.InstanceValue.{number_of}
use Rattle.aol_level.proofs.Putting.{fault_next, nums_next}
use Rattle.aol_level.proofs.outputs.take_inputs.Goals as goal

pub loop-place-preserved : goal.loop-place-preserved
loop-place-preserved c = record {
  many = ap length c.set_number.ensures ∙ length-set c.loop-place.nums c.loop-place.place (number_of c.value_taken-val.result) ∙ c.loop-place.invariant.many;
  fault = fault_next c.args.rest.now.cells c.args.reads.now c.loop-place.place _ c.loop-place.fault c.fault_then-fault.result c.value_taken-val.result (omega arith) c.value_taken-val.ensures c.loop-place.invariant.fault c.fault_then-fault.ensures;
  nums = nums_next c.args.rest.now.cells c.args.reads.now c.loop-place.place _ c.loop-place.nums c.set_number.new.nums c.value_taken-val.result (omega arith) (omega (arith, c.loop-place.invariant.many)) c.value_taken-val.ensures
      c.loop-place.invariant.nums c.set_number.ensures;
}
