use Rattle.std.proofs.Common.{Result, sym, subst}
use Rattle.serde_json.specs.View.{view}
use Rattle.aol_model_types.specs.declared.task.Task.{Task}
use Rattle.aol_model_types.specs.Answers.{Gives}
use Rattle.aol_model_types.specs.Reading.{Fault}
use Rattle.aol_document_reading.specs.Trails.{steps_of}
use Rattle.aol_document_reading.proofs.Steps.{elementary_chosen, compound_chosen, repeated_chosen}
use Rattle.aol_document_reading.proofs.reading.whole.TaskFromTree.from_tree.Goals as goal

pub returns-then-same_text-clause-read : goal.returns-then-same_text-clause-read
returns-then-same_text-clause-read c =
    let is = elementary_chosen c.args.reader.later (steps_of c.args.at.now) (view c.args.tree.now) c.in_ok-kind.kind.now c.in_ok-kind.ensures (sym c.if-same_text.ensures) in
    subst (λ (r : Result Task Fault). Gives c.elementary_of.result r) is c.elementary_of.ensures.read

pub returns-then-same_text-2-clause-read : goal.returns-then-same_text-2-clause-read
returns-then-same_text-2-clause-read c =
    let is = compound_chosen c.args.reader.later (steps_of c.args.at.now) (view c.args.tree.now) c.in_ok-kind.kind.now c.in_ok-kind.ensures (sym c.if-same_text.ensures) (sym c.if-same_text-2.ensures) in
    subst (λ (r : Result Task Fault). Gives c.compound_of.result r) is c.compound_of.ensures.read

pub returns-else-same_text-2-clause-read : goal.returns-else-same_text-2-clause-read
returns-else-same_text-2-clause-read c =
    let is = repeated_chosen c.args.reader.later (steps_of c.args.at.now) (view c.args.tree.now) c.in_ok-kind.kind.now c.in_ok-kind.ensures (sym c.if-same_text.ensures) (sym c.if-same_text-2.ensures) in
    subst (λ (r : Result Task Fault). Gives c.repeated_of.result r) is c.repeated_of.ensures.read
