use Rattle.std.proofs.Common.{refl}
use Rattle.aol_document_reading.proofs.reading.tasks.reshape_of.Goals as goal

pub returns-clause-read : goal.returns-clause-read
returns-clause-read c = rw (c.in_ok-shapes.ensures.read, c.in_ok-tilers.ensures.read) refl

pub returns-clause-types : goal.returns-clause-types
returns-clause-types c = record {
  space = (c.in_ok-shapes.ensures.types).0;
  pattern = (c.in_ok-shapes.ensures.types).1;
  source = (c.in_ok-tilers.ensures.types).0;
  target = (c.in_ok-tilers.ensures.types).1;
}
