use Rattle.std.proofs.Common.{◌≡◌, drop}
use Rattle.aol_csyn.specs.Stored.{tables_of}
use Rattle.aol_csyn.specs.Text.{tables_text}
use Rattle.aol_csyn.specs.Writing.{progress}
use Rattle.aol_csyn.proofs.Written.{Begun}
use Rattle.aol_csyn.proofs.writing.put_tables.Given as goal

abbrev pub invariant-loop-table : goal.invariant-loop-table
invariant-loop-table g l = record {
  count : l.t ≡ l.table-index;
  wrote : Begun (progress (g.K.Sink.taken l.initial.sink) (g.K.Sink.faults l.initial.sink) l.initial.failed) (progress (g.K.Sink.taken l.sink) (g.K.Sink.faults l.sink) l.failed) (tables_text l.table-index (tables_of (drop l.table-index l.tables))) (tables_text 0 (tables_of l.tables));
}
