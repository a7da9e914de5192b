use Rattle.std.proofs.Common.{◌≡◌, List, ℕ, [], ◌∷◌, length, Option, Some, None, slice_get, codes, Bor, ◌++◌, string_bytes, sym, ◌∙◌, ap, arith}
use Rattle.std.proofs.lemmas.Result.{on_ok_weaker}
use Rattle.std.specs.Option.{option_copied}
use Rattle.std.proofs.lemmas.Option.{slice_get_within}
use Rattle.aol_expr_tree.specs.declared.port.Port.{Port}
use Rattle.aol_model_types.specs.declared.document.Model.{Model}
use Rattle.aol_model_types.specs.Rules.{inputs_of}
use Rattle.aol_flat.specs.Instance.{leaves, instances}
use Rattle.aol_lines.specs.Line.{after_blanks}
use Rattle.aol_lines.specs.Refused.{input_among}
use Rattle.aol_lines.proofs.Readers.{reads_there, same_point, some_there}
use Rattle.aol_lines.proofs.LeafTasks.{IsTaskInput, IsInputOf, copy_input, task_input, input_of}
use Rattle.aol_lines.proofs.refused.push_input.Goals as goal

pub leaf_with-requires : goal.leaf_with-requires
leaf_with-requires c =
    let i = reads_there c.args.flat.now.model c.args.instance c.args.port c.args.point c.requires in
    slice_get_within (instances c.args.flat.now.model) c.args.instance i.instance i.at

pub leaf-leaf-requires : goal.leaf-leaf-requires
leaf-leaf-requires c = slice_get_within (leaves c.args.flat.now.model) c.leaf_with.result c.leaf_with.ensures.work c.leaf_with.ensures.at

pub returns-in-Copy : goal.returns-in-Copy
returns-in-Copy c =
    let m = c.args.flat.now.model in
    let words : codes "from" ∷ codes "{}" ∷ [] ≡ input_among m (leaves m) c.args.instance c.args.port c.args.point =
    copy_input m c.args.instance c.leaf_with.result c.leaf-leaf.result.now c.args.port c.args.point c.leaf_with.ensures c.leaf-leaf.ensures c.in-Copy.is in
    on_ok_weaker c.push_words.result (λ more. more ∙ ap (λ ws. string_bytes c.args.text.now ++ after_blanks ws) words) c.push_words.ensures

pub bounds-as_slice-number : goal.bounds-as_slice-number
bounds-as_slice-number c =
    let m = c.args.flat.now.model in
    let i : IsTaskInput m c.args.instance c.args.port c.args.point c.in-Elementary.number =
    task_input m c.args.instance c.leaf_with.result c.leaf-leaf.result.now c.args.port c.args.point c.in-Elementary.number c.model.ensures.flat.sound c.requires c.leaf_with.ensures c.leaf-leaf.ensures c.in-Elementary.is in
    let many : length c.as_slice.result.now ≡ length m.tasks = ap length (c.as_slice.ensures ∙ ap (λ (n : Model). n.tasks) c.model.ensures.same) in
    omega (arith, slice_get_within m.tasks c.in-Elementary.number i.task i.listed, many)

pub unreachable-requires : goal.unreachable-requires
unreachable-requires c =
    let m = c.args.flat.now.model in
    let t = c.index-as_slice-number.result in
    let i : IsTaskInput m c.args.instance c.args.port c.args.point c.in-Elementary.number =
    task_input m c.args.instance c.leaf_with.result c.leaf-leaf.result.now c.args.port c.args.point c.in-Elementary.number c.model.ensures.flat.sound c.requires c.leaf_with.ensures c.leaf-leaf.ensures c.in-Elementary.is in
    let same : c.as_slice.result.now ≡ m.tasks = c.as_slice.ensures ∙ ap (λ (n : Model). n.tasks) c.model.ensures.same in
    let o : IsInputOf m c.args.instance c.args.port c.args.point t = input_of m c.args.instance c.args.port c.args.point c.in-Elementary.number t c.as_slice.result.now same c.index-as_slice-number.is i in
    let none : slice_get (inputs_of t) c.args.port ≡ None = sym c.input.ensures ∙ ap (λ (o : Option (Bor Port)). option_copied o) c.in_default.is in
    some_there (inputs_of t) c.args.port c.args.point o.point none

pub push_port-requires : goal.push_port-requires
push_port-requires c =
    let m = c.args.flat.now.model in
    let t = c.index-as_slice-number.result in
    let i : IsTaskInput m c.args.instance c.args.port c.args.point c.in-Elementary.number =
    task_input m c.args.instance c.leaf_with.result c.leaf-leaf.result.now c.args.port c.args.point c.in-Elementary.number c.model.ensures.flat.sound c.requires c.leaf_with.ensures c.leaf-leaf.ensures c.in-Elementary.is in
    let same : c.as_slice.result.now ≡ m.tasks = c.as_slice.ensures ∙ ap (λ (n : Model). n.tasks) c.model.ensures.same in
    let o : IsInputOf m c.args.instance c.args.port c.args.point t = input_of m c.args.instance c.args.port c.args.point c.in-Elementary.number t c.as_slice.result.now same c.index-as_slice-number.is i in
    let there : slice_get (inputs_of t) c.args.port ≡ Some c.in-Some.read.now = sym c.input.ensures ∙ ap (λ (o : Option (Bor Port)). option_copied o) c.in-Some.is in
    same_point (inputs_of t) c.args.port c.args.point c.in-Some.read.now o.point there

pub returns-in-Some : goal.returns-in-Some
returns-in-Some c =
    let m = c.args.flat.now.model in
    let t = c.index-as_slice-number.result in
    let i : IsTaskInput m c.args.instance c.args.port c.args.point c.in-Elementary.number =
    task_input m c.args.instance c.leaf_with.result c.leaf-leaf.result.now c.args.port c.args.point c.in-Elementary.number c.model.ensures.flat.sound c.requires c.leaf_with.ensures c.leaf-leaf.ensures c.in-Elementary.is in
    let same : c.as_slice.result.now ≡ m.tasks = c.as_slice.ensures ∙ ap (λ (n : Model). n.tasks) c.model.ensures.same in
    let o : IsInputOf m c.args.instance c.args.port c.args.point t = input_of m c.args.instance c.args.port c.args.point c.in-Elementary.number t c.as_slice.result.now same c.index-as_slice-number.is i in
    let there : slice_get (inputs_of t) c.args.port ≡ Some c.in-Some.read.now = sym c.input.ensures ∙ ap (λ (o : Option (Bor Port)). option_copied o) c.in-Some.is in
    on_ok_weaker c.push_port.result (λ more. more ∙ ap (λ ws. string_bytes c.args.text.now ++ after_blanks ws) (o.words c.in-Some.read.now there)) c.push_port.ensures
