use Rattle.std.proofs.Common.{◌≡◌, ◌<◌, ◌^◌, length, slice_get, get_or, sym, ◌∙◌, ap, arith}
use Rattle.aol_model_types.specs.declared.document.Model.{Model}
use Rattle.aol_model_types.specs.Rules.{inputs_of}
use Rattle.aol_flat.specs.Instance.{port_sizes, places_of_sizes, read_sizes}
use Rattle.aol_assign.proofs.LeafNumbers.{sizes_read}
use Rattle.aol_assign.proofs.reads.read_place.Goals as goal

pub place_of-requires-clause-few : goal.place_of-requires-clause-few
place_of-requires-clause-few c =
    let m = c.args.flat.now.model in
    let k = c.in-Elementary.task in
    let i = c.requires.0 in
    let at : c.index-as_slice-task.result ≡ get_or m.tasks k c.index-as_slice-task.result = c.index-as_slice-task.is ∙ ap (λ ts. get_or ts k c.index-as_slice-task.result) (c.as_slice.ensures ∙ ap (λ (x : Model). x.tasks) c.model.ensures.same) in
    let sizes : read_sizes m i ≡ port_sizes (inputs_of c.index-as_slice-task.result) = sizes_read m i k c.args.kind c.index-as_slice-task.result c.requires.1 c.in-Elementary.is at in
    let all : c.as_slice-in-Elementary.result.now ≡ read_sizes m i = c.as_slice-in-Elementary.ensures.value ∙ (c.in_ok-sizes-in-Elementary.ensures ∙ sym sizes) in
    let few : length (read_sizes m i) < 2 ^ 32 = c.requires.3 in
    let many = ap length all in
    omega (arith, many, few)

pub returns-in_ok-sizes-in-Elementary : goal.returns-in_ok-sizes-in-Elementary
returns-in_ok-sizes-in-Elementary c i has =
    let m = c.args.flat.now.model in
    let k = c.in-Elementary.task in
    let at : c.index-as_slice-task.result ≡ get_or m.tasks k c.index-as_slice-task.result = c.index-as_slice-task.is ∙ ap (λ ts. get_or ts k c.index-as_slice-task.result) (c.as_slice.ensures ∙ ap (λ (x : Model). x.tasks) c.model.ensures.same) in
    let sizes : read_sizes m i ≡ port_sizes (inputs_of c.index-as_slice-task.result) = sizes_read m i k c.args.kind c.index-as_slice-task.result has c.in-Elementary.is at in
    let all : c.as_slice-in-Elementary.result.now ≡ read_sizes m i = c.as_slice-in-Elementary.ensures.value ∙ (c.in_ok-sizes-in-Elementary.ensures ∙ sym sizes) in
    ap (λ s. slice_get (places_of_sizes 0 s) c.args.number) (sym all) ∙ c.place_of.ensures
