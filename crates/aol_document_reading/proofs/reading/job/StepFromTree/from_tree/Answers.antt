use Rattle.std.proofs.Common.{Result, sym, subst, ◌∙◌}
use Rattle.serde_json.specs.View.{view}
use Rattle.aol_model_types.specs.declared.job.Step.{Step}
use Rattle.aol_model_types.specs.Answers.{Gives}
use Rattle.aol_model_types.specs.Reading.{Fault}
use Rattle.aol_document_reading.specs.Trails.{steps_of}
use Rattle.aol_document_reading.proofs.Parts as parts
use Rattle.aol_document_reading.proofs.Steps.{tile_is, pave_is, skew_is, fuse_is}
use Rattle.aol_document_reading.proofs.reading.job.StepFromTree.from_tree.Goals as goal

pub returns-then-same_text-clause-read : goal.returns-then-same_text-clause-read
returns-then-same_text-clause-read c =
    let is = tile_is (steps_of c.args.at.now) (view c.args.tree.now) c.in_ok-kind.kind.now c.in_ok-kind.ensures (sym c.if-same_text.ensures) in
    subst (λ (r : Result Step Fault). Gives c.tile_of.result r) (sym is) c.tile_of.ensures.read

pub returns-then-same_text-2-clause-read : goal.returns-then-same_text-2-clause-read
returns-then-same_text-2-clause-read c =
    let is = pave_is (steps_of c.args.at.now) (view c.args.tree.now) c.in_ok-kind.kind.now c.in_ok-kind.ensures (sym c.if-same_text.ensures) (sym c.if-same_text-2.ensures) in
    subst (λ (r : Result Step Fault). Gives c.pave_of.result r) (sym is) c.pave_of.ensures.read

pub returns-then-same_text-3-clause-read : goal.returns-then-same_text-3-clause-read
returns-then-same_text-3-clause-read c =
    let is = skew_is (steps_of c.args.at.now) (view c.args.tree.now) c.in_ok-kind.kind.now c.in_ok-kind.ensures (sym c.if-same_text.ensures) (sym c.if-same_text-2.ensures) (sym c.if-same_text-3.ensures) in
    subst (λ (r : Result Step Fault). Gives c.skew_of.result r) (sym is) c.skew_of.ensures.read

pub returns-else-same_text-3-clause-read : goal.returns-else-same_text-3-clause-read
returns-else-same_text-3-clause-read c =
    let is = fuse_is (steps_of c.args.at.now) (view c.args.tree.now) c.in_ok-kind.kind.now c.in_ok-kind.ensures (sym c.if-same_text.ensures) (sym c.if-same_text-2.ensures) (sym c.if-same_text-3.ensures) in
    subst (λ (r : Result Step Fault). Gives c.fuse_of.result r) (parts.fuse_is (steps_of c.args.at.now) (view c.args.tree.now) ∙ sym is) c.fuse_of.ensures.read
