use Rattle.std.proofs.Common.{arith}
use Rattle.aol_model_types.specs.Rules.{outputs_of}
use Rattle.aol_runner.proofs.TakenOutputs.{place_fits, place_next, output_next}
use Rattle.aol_runner.proofs.outputs.take_ports.Goals as goal

pub take_output-requires-clause-within : goal.take_output-requires-clause-within
take_output-requires-clause-within c =
    let fits = place_fits c.args.first c.loop-k.at c.loop-k.k (outputs_of c.args.task.now) c.output-port.result.now (omega (arith, c.loop-k-test.true, c.output_count-count.ensures)) c.output-port.ensures c.loop-k.invariant.place in
    omega (arith, fits, c.requires.within)

pub overflow_add-at : goal.overflow_add-at
overflow_add-at c =
    let fits = place_fits c.args.first c.loop-k.at c.loop-k.k (outputs_of c.args.task.now) c.output-port.result.now (omega (arith, c.loop-k-test.true, c.output_count-count.ensures)) c.output-port.ensures c.loop-k.invariant.place in
    omega (arith, fits, c.requires.within, c.requires.few, c.size.ensures.points)

pub loop-k-preserved : goal.loop-k-preserved
loop-k-preserved c =
    record {
      taken = output_next c.args.memory.now c.loop-k.outputs.items c.push_output.new.outputs.items c.args.first c.loop-k.at c.loop-k.k (outputs_of c.args.task.now) c.output-port.result.now c.in_ok-take_output.field-0
          (omega (arith, c.loop-k-test.true, c.output_count-count.ensures)) c.output-port.ensures c.loop-k.invariant.place c.loop-k.invariant.taken c.in_ok-take_output.ensures c.in_ok-push_output.ensures;
      place = (let next = place_next c.args.first c.loop-k.at c.loop-k.k (outputs_of c.args.task.now) c.output-port.result.now (omega (arith, c.loop-k-test.true, c.output_count-count.ensures)) c.output-port.ensures c.loop-k.invariant.place in
          omega (arith, next, c.size.ensures.points));
    }
