use Rattle.aol_document_reading.proofs.Tasks.{model_kept}
use Rattle.aol_document_reading.proofs.reading.whole.ModelFromTree.from_tree.Goals as goal

pub returns-clause-types : goal.returns-clause-types
returns-clause-types c = rw c.from_vec.ensures (model_kept _ c.in_ok-read.ensures.types (c.in_ok-read.ensures.count).0)
