use Rattle.std.specs.Prelude.{map}
use Rattle.std.proofs.Common.{rules, arith}
use Rattle.aol_csyn.specs.Stored.{step_of}
use Rattle.aol_csyn.specs.Text.{calls_text}
use Rattle.aol_csyn.proofs.Written.{begun_none, begun_end, calls_more, turn_small}
use Rattle.aol_csyn.proofs.writing.put_calls.Goals as goal

pub loop-step-preserved : goal.loop-step-preserved
loop-step-preserved g c =
    rw (c.next_level-level.ensures, c.next_worker-worker.ensures) (record {
      wrote = calls_more c.args.workers _ _ _ c.loop-step.level c.loop-step.worker c.loop-step._step-index c.args.steps.now c._step-item.result
          (calls_text c.args.workers 0 0 (map step_of c.args.steps.now)) c.loop-step-test.true c._step-item.is c.loop-step.invariant.wrote c.put_call.ensures;
      small = turn_small c.args.workers c.loop-step.level c.loop-step.worker c.loop-step._step-index c.loop-step.invariant.small;
    })
