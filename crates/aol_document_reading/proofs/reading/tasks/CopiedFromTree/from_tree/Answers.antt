use Rattle.std.proofs.Common.{Result, subst}
use Rattle.serde_json.specs.View.{view}
use Rattle.aol_model_types.specs.declared.task.Copied.{Copied}
use Rattle.aol_model_types.specs.Answers.{Gives}
use Rattle.aol_model_types.specs.Reading.{Fault}
use Rattle.aol_document_reading.specs.Trails.{steps_of}
use Rattle.aol_document_reading.proofs.Parts.{copied_is}
use Rattle.aol_document_reading.proofs.reading.tasks.CopiedFromTree.from_tree.Goals as goal

pub returns-clause-read : goal.returns-clause-read
returns-clause-read c = subst (λ (r : Result Copied Fault). Gives c.copied_of.result r) (copied_is (steps_of c.args.at.now) (view c.args.tree.now)) c.copied_of.ensures.read
