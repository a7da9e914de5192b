use Rattle.aol_document_writing.proofs.Written.{array_written}
use Rattle.aol_document_writing.proofs.writing.to_tree.list_of.Goals as goal

pub returns-clause-written : goal.returns-clause-written
returns-clause-written g c = array_written c.loop-item.trees c.loop-item.invariant.written
