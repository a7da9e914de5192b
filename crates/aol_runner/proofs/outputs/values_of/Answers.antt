use Rattle.std.proofs.Common.{arith}
use Rattle.aol_runner.proofs.TakenOutputs.{value_next}
use Rattle.aol_runner.proofs.outputs.values_of.Goals as goal

pub loop-x-preserved : goal.loop-x-preserved
loop-x-preserved c =
    value_next c.args.memory.now c.loop-x.vals.items c.push_value.new.vals.items c.args.first c.loop-x.x c.get.result (omega (arith, c.loop-x-test.true, c.requires.within)) c.get.ensures
    c.loop-x.invariant c.in_ok-push_value.ensures
