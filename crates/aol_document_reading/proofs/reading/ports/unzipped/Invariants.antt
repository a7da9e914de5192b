use Rattle.std.proofs.Common.{◌≡◌, map}
use Rattle.aol_document_reading.proofs.reading.ports.unzipped.Given as goal

abbrev pub invariant-loop-first : goal.invariant-loop-first
invariant-loop-first g l = record {
  firsts : l.firsts.items ≡ map (λ p. p.0) l.yielded;
  seconds : l.seconds.items ≡ map (λ p. p.1) l.yielded;
}
