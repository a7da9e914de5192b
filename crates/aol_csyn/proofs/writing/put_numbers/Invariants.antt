use Rattle.std.proofs.Common.{drop}
use Rattle.aol_csyn.specs.Text.{further_text}
use Rattle.aol_csyn.specs.Writing.{progress}
use Rattle.aol_csyn.proofs.Written.{Begun}
use Rattle.aol_csyn.proofs.writing.put_numbers.Given as goal

abbrev pub invariant-loop-number : goal.invariant-loop-number
invariant-loop-number g l = Begun (progress (g.K.Sink.taken l.initial.sink) (g.K.Sink.faults l.initial.sink) l.initial.failed) (progress (g.K.Sink.taken l.sink) (g.K.Sink.faults l.sink) l.failed) (further_text (drop l.number-index l.others)) (further_text l.others)
