use Rattle.std.proofs.Common.{Result, subst}
use Rattle.serde_json.specs.View.{view}
use Rattle.aol_link.specs.declared.link.Interlink.{Interlink}
use Rattle.aol_model_types.specs.Answers.{Gives}
use Rattle.aol_model_types.specs.Reading.{Fault}
use Rattle.aol_document_reading.specs.Trails.{steps_of}
use Rattle.aol_document_reading.proofs.Parts.{interlink_is}
use Rattle.aol_document_reading.proofs.reading.repeated.InterlinkFromTree.from_tree.Goals as goal

pub returns-clause-read : goal.returns-clause-read
returns-clause-read c = subst (λ (r : Result Interlink Fault). Gives c.interlink_of.result r) (interlink_is (steps_of c.args.at.now) (view c.args.tree.now) c.args.reader.later) c.interlink_of.ensures.read
