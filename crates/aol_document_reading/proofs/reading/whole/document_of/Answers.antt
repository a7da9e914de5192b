use Rattle.serde_json.specs.View.{view}
use Rattle.aol_document_laws.proofs.Readable.{document_readable}
use Rattle.aol_document_reading.proofs.reading.whole.document_of.Goals as goal

pub returns-clause-readable : goal.returns-clause-readable
returns-clause-readable c = λ h. document_readable (view c.args.tree.now) c.in_ok-document.document h c.in_ok-document.ensures.document
