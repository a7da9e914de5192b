use Rattle.aol_document_reading.proofs.Elements.{all_fit}
use Rattle.aol_document_reading.proofs.reading.whole.array_of.Goals as goal

pub returns-clause-types : goal.returns-clause-types
returns-clause-types c = record { nums = all_fit _ (c.in_ok-nums.ensures.types).0; count = (c.in_ok-nums.ensures.types).1 }
