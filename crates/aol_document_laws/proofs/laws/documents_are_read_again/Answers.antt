use Rattle.aol_document_laws.proofs.Again.{documents_again}
use Rattle.aol_document_laws.proofs.laws.documents_are_read_again.Goals as goal

pub returns : goal.returns
returns c = documents_again
