use Rattle.std.proofs.Common.{◌∙◌, ap}
use Rattle.aol_model_types.specs.Reading.{document_in}
use Rattle.aol_document_laws.proofs.Again.{document-again}
use Rattle.aol_document_writing.proofs.writing.whole.value_of.Goals as goal

-- the tree is the document's, which is read again
pub returns-clause-again : goal.returns-clause-again
returns-clause-again c = ap document_in c.in_ok-tree.ensures.tree ∙ document-again _ _ c.requires
