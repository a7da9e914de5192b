use Rattle.std.proofs.Common.{◌≡◌, ◌+◌, length}
use Rattle.aol_expr_tree.specs.Reading.{reading_from}
use Rattle.aol_expr.proofs.reading.run.Given as goal

abbrev pub invariant-loop-b : goal.invariant-loop-b
invariant-loop-b l = record {
  place : l.reader.held.place + length l.rest ≡ l.initial.reader.held.place + length l.bytes;
  on : reading_from l.initial.reader.held.place l.initial.reader l.bytes ≡ reading_from l.reader.held.place l.reader l.rest;
}

abbrev pub decreases-loop-b : goal.decreases-loop-b
decreases-loop-b l = length l.rest
