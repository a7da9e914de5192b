use Rattle.std.proofs.Common.{◌+◌, ◌≤◌, drop, map}
use Rattle.aol_csyn.specs.Stored.{step_of}
use Rattle.aol_csyn.specs.Text.{calls_text}
use Rattle.aol_csyn.specs.Writing.{progress}
use Rattle.aol_csyn.proofs.Written.{Begun}
use Rattle.aol_csyn.proofs.writing.put_calls.Given as goal

abbrev pub invariant-loop-step : goal.invariant-loop-step
invariant-loop-step g l = record {
  wrote : Begun (progress (g.K.Sink.taken l.initial.sink) (g.K.Sink.faults l.initial.sink) l.initial.failed) (progress (g.K.Sink.taken l.sink) (g.K.Sink.faults l.sink) l.failed) (calls_text l.workers l.level l.worker (map step_of (drop l._step-index l.steps))) (calls_text l.workers 0 0 (map step_of l.steps));
  small : l.level + l.worker ≤ l._step-index;
}
