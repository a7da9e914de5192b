use Rattle.std.proofs.Common.{drop}
use Rattle.aol_csyn.specs.Stored.{stmts_of}
use Rattle.aol_csyn.specs.Text.{stmts_text}
use Rattle.aol_csyn.specs.Writing.{progress}
use Rattle.aol_csyn.proofs.Written.{Begun}
use Rattle.aol_csyn.proofs.writing.+statement.Given as goal

abbrev pub invariant-put_stmts-loop-stmt : goal.invariant-put_stmts-loop-stmt
invariant-put_stmts-loop-stmt g l = Begun (progress (g.K.Sink.taken l.initial.sink) (g.K.Sink.faults l.initial.sink) l.initial.failed) (progress (g.K.Sink.taken l.sink) (g.K.Sink.faults l.sink) l.failed) (stmts_text (stmts_of (drop l.stmt-index l.body))) (stmts_text (stmts_of l.body))
