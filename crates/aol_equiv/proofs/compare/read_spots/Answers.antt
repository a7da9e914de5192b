use Rattle.std.proofs.Common.{◌≡◌, ℕ, List, [], ◌∷◌, ◌++◌, length, get_or, ◌∙◌, ap, arith}
use Rattle.aol_model_types.specs.declared.document.Model.{Model}
use Rattle.aol_assign.proofs.FirstFound.{if_ok_as}
use Rattle.aol_equiv.proofs.RowKinds.{task_within}
use Rattle.aol_equiv.proofs.Spots.{few, run_spots_read, copy_spots_read}
use Rattle.aol_equiv.proofs.compare.read_spots.Goals as goal

pub bounds-as_slice-task : goal.bounds-as_slice-task
bounds-as_slice-task c =
    let m = c.args.flat.now.model in
    let within = task_within m c.model-model.ensures.flat.sound c.args.leaf c.leaf.result.now c.leaf.ensures c.in-Elementary.task c.in-Elementary.is in
    let many = ap length (c.as_slice.ensures ∙ ap (λ (x : Model). x.tasks) c.model-model.ensures.same) in
    omega (arith, within, many)

pub input_spots-requires : goal.input_spots-requires
input_spots-requires c =
    let m = c.args.flat.now.model in
    let task : c.index-as_slice-task.result ≡ get_or m.tasks c.in-Elementary.task c.index-as_slice-task.result =
    c.index-as_slice-task.is ∙ ap (λ ts. get_or ts c.in-Elementary.task c.index-as_slice-task.result) (c.as_slice.ensures ∙ ap (λ (x : Model). x.tasks) c.model-model.ensures.same) in
    few m c.model-model.ensures.flat.sound c.args.leaf c.leaf.result.now c.leaf.ensures c.in-Elementary.task c.in-Elementary.is c.index-as_slice-task.result task

pub returns-in-Elementary : goal.returns-in-Elementary
returns-in-Elementary c =
    let m = c.args.flat.now.model in
    let task : c.index-as_slice-task.result ≡ get_or m.tasks c.in-Elementary.task c.index-as_slice-task.result =
    c.index-as_slice-task.is ∙ ap (λ ts. get_or ts c.in-Elementary.task c.index-as_slice-task.result) (c.as_slice.ensures ∙ ap (λ (x : Model). x.tasks) c.model-model.ensures.same) in
    if_ok_as _ _ c.input_spots.result
    (λ v h. run_spots_read m c.model-model.ensures.flat.sound c.args.leaf c.leaf.result.now c.leaf.ensures c.in-Elementary.task c.in-Elementary.is c.index-as_slice-task.result task v.items h)
    c.input_spots.ensures

pub returns-in_ok-push-in-Copy : goal.returns-in_ok-push-in-Copy
returns-in_ok-push-in-Copy c =
    copy_spots_read c.args.flat.now.model c.model-model.ensures.flat.sound c.args.leaf c.leaf.result.now c.leaf.ensures c.in-Copy.is c.push.new.self.items
    (c.in_ok-push-in-Copy.ensures.items ∙ ap (λ (xs : List (ℕ × ℕ)). xs ++ (0, 0) ∷ []) c.new-spots.ensures.items)
