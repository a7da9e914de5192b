use Rattle.aol_document_laws.proofs.Readable.{document_readable}
use Rattle.aol_document_laws.proofs.whole.reading_shows.Goals as goal

pub returns : goal.returns
returns c = document_readable
