use Rattle.std.proofs.Common.{◌≡◌, get_or, ◌∙◌, ap}
use Rattle.aol_model_types.specs.declared.document.Model.{Model}
use Rattle.aol_equiv.proofs.RowKinds.{run_spots}
use Rattle.aol_equiv.proofs.made.lead_run_leaf.Goals as goal

pub lead_runs-requires-clause-spots : goal.lead_runs-requires-clause-spots
lead_runs-requires-clause-spots c row n is lt i at =
    let m = c.args.flat.now.model in
    let task : c.index-as_slice-task.result ≡ get_or m.tasks c.args.task c.index-as_slice-task.result =
    c.index-as_slice-task.is ∙ ap (λ ts. get_or ts c.args.task c.index-as_slice-task.result) (c.as_slice.ensures ∙ ap (λ (x : Model). x.tasks) c.model.ensures.same) in
    run_spots m c.requires.flat.sound c.args.leaf row is n lt i at c.args.task (c.requires.kind row is) c.index-as_slice-task.result task c.as_slice-2.result.now (c.as_slice-2.ensures.value ∙ c.in_ok-spots.ensures)
