use Rattle.std.proofs.Common.{Result, subst}
use Rattle.serde_json.specs.View.{view}
use Rattle.aol_model_types.specs.declared.document.Document.{Document}
use Rattle.aol_model_types.specs.Answers.{Gives}
use Rattle.aol_model_types.specs.Reading.{Fault}
use Rattle.aol_document_reading.proofs.Parts.{members_are}
use Rattle.aol_document_reading.proofs.reading.whole.members_of.Goals as goal

pub returns-clause-read : goal.returns-clause-read
returns-clause-read c = subst (λ (r : Result Document Fault). Gives c.parts_of.result r) (members_are c.args.reader.later (view c.args.tree.now)) c.parts_of.ensures.read
