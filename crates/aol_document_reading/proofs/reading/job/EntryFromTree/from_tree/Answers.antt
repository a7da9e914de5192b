use Rattle.std.proofs.Common.{Result, subst}
use Rattle.serde_json.specs.View.{view}
use Rattle.aol_model_types.specs.declared.job.Entry.{Entry}
use Rattle.aol_model_types.specs.Answers.{Gives}
use Rattle.aol_model_types.specs.Reading.{Fault}
use Rattle.aol_document_reading.specs.Trails.{steps_of}
use Rattle.aol_document_reading.proofs.Parts.{entry_is}
use Rattle.aol_document_reading.proofs.reading.job.EntryFromTree.from_tree.Goals as goal

pub returns-clause-read : goal.returns-clause-read
returns-clause-read c = subst (λ (r : Result Entry Fault). Gives c.entry_of.result r) (entry_is (steps_of c.args.at.now) (view c.args.tree.now)) c.entry_of.ensures.read
