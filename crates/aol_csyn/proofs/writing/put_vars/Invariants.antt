use Rattle.std.proofs.Common.{◌-◌}
use Rattle.aol_csyn.specs.Text.{vars_text}
use Rattle.aol_csyn.specs.Writing.{progress}
use Rattle.aol_csyn.proofs.Written.{Begun}
use Rattle.aol_csyn.proofs.writing.put_vars.Given as goal

abbrev pub invariant-loop-k : goal.invariant-loop-k
invariant-loop-k g l = Begun (progress (g.K.Sink.taken l.initial.sink) (g.K.Sink.faults l.initial.sink) l.initial.failed) (progress (g.K.Sink.taken l.sink) (g.K.Sink.faults l.sink) l.failed) (vars_text l.k (l.vars - l.k)) (vars_text 0 l.vars)
