use Rattle.std.proofs.Common.{◌∙◌, ap, true, false}
use Rattle.aol_model_types.specs.declared.document.Model.{Model}
use Rattle.aol_change.proofs.Below.{named_above, other_above, read_task, tested_name}
use Rattle.aol_change.proofs.unblocked.+entries_before.Goals as goal

pub returns-then-are_same : goal.returns-then-are_same
returns-then-are_same t c =
    let m = c.args.flat.now.model in
    let task = c.index-as_slice-above.result in
    named_above m c.model.ensures.flat.sound c.args.name.now c.args.node c.row-up.result c.row-above.result task c.if-node-eq0.false c.row-up.ensures c.row-above.ensures
    (read_task c.as_slice.result.now m.tasks c.row-above.result.task task c.index-as_slice-above.is (c.as_slice.ensures ∙ ap (λ (x : Model). x.tasks) c.model.ensures.same))
    (tested_name task c.args.name.now c.name_of.result.now c.are_same.result true c.name_of.ensures c.are_same.ensures c.if-are_same.true)

pub returns : goal.returns
returns t c =
    let m = c.args.flat.now.model in
    let task = c.index-as_slice-above.result in
    other_above m c.model.ensures.flat.sound c.args.name.now c.args.node c.row-up.result c.row-above.result task c.if-node-eq0.false c.row-up.ensures c.row-above.ensures
    (read_task c.as_slice.result.now m.tasks c.row-above.result.task task c.index-as_slice-above.is (c.as_slice.ensures ∙ ap (λ (x : Model). x.tasks) c.model.ensures.same))
    (tested_name task c.args.name.now c.name_of.result.now c.are_same.result false c.name_of.ensures c.are_same.ensures c.if-are_same.false) c.entries_before.result c.entries_before.ensures
