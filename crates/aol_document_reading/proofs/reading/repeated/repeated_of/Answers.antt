use Rattle.aol_document_reading.proofs.Tasks.{repeated_kept}
use Rattle.aol_document_reading.proofs.reading.repeated.repeated_of.Goals as goal

pub returns-clause-types : goal.returns-clause-types
returns-clause-types c = rw (c.from_vec.ensures, c.from_vec-2.ensures) (repeated_kept _ c.in_ok-head.ensures.name c.in_ok-head.ensures.ins.0 c.in_ok-head.ensures.ins.1 c.in_ok-head.ensures.outs.0 c.in_ok-head.ensures.outs.1 c.in_ok-head.ensures.filled (c.in_ok-inner.ensures.types).0 (c.in_ok-joins.ensures.types).0 (c.in_ok-joins.ensures.types).1)
