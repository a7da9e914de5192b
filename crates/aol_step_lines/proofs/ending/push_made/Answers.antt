use Rattle.std.proofs.Common.{◌≡◌, length, Option, Some, None, slice_get, Bor, string_bytes, ◌++◌, refl, sym, ◌∙◌, ap, arith}
use Rattle.std.specs.Option.{option_copied}
use Rattle.std.proofs.lemmas.Option.{slice_get_within}
use Rattle.std.proofs.lemmas.Result.{on_ok_weaker}
use Rattle.aol_expr_tree.specs.declared.port.Port.{Port}
use Rattle.aol_model_types.specs.declared.document.Model.{Model}
use Rattle.aol_model_types.specs.Rules.{outputs_of}
use Rattle.aol_flat.specs.Instance.{Run, leaves, instances}
use Rattle.aol_lines.specs.Line.{after_blanks}
use Rattle.aol_lines.proofs.Readers.{same_point, some_there}
use Rattle.aol_step_lines.proofs.Ends.{IsMadeEnd, made_end, no_copies, IsTaskOutput, task_output, IsOutputOf, output_of}
use Rattle.aol_step_lines.proofs.ending.push_made.Goals as goal

pub leaf_with-requires : goal.leaf_with-requires
leaf_with-requires c =
    let made = made_end c.args.flat.now.model c.requires.0 _ c.args.instance c.args.port c.args.point c.requires.1 refl in
    slice_get_within (instances c.args.flat.now.model) c.args.instance (Run made.place) made.at

pub leaf-leaf-requires : goal.leaf-leaf-requires
leaf-leaf-requires c = slice_get_within (leaves c.args.flat.now.model) c.leaf_with.result c.leaf_with.ensures.work c.leaf_with.ensures.at

pub unreachable-requires : goal.unreachable-requires
unreachable-requires c =
    let m = c.args.flat.now.model in
    let made = made_end m c.requires.0 _ c.args.instance c.args.port c.args.point c.requires.1 refl in
    no_copies m c.args.instance c.leaf_with.result c.args.port c.args.point c.leaf-leaf.result.now made c.leaf_with.ensures c.leaf-leaf.ensures c.in-Copy.is

pub bounds-as_slice-number : goal.bounds-as_slice-number
bounds-as_slice-number c =
    let m = c.args.flat.now.model in
    let made = made_end m c.requires.0 _ c.args.instance c.args.port c.args.point c.requires.1 refl in
    let i = task_output m c.args.instance c.leaf_with.result c.leaf-leaf.result.now c.args.port c.args.point c.in-Elementary.number c.model.ensures.flat.sound made c.leaf_with.ensures c.leaf-leaf.ensures c.in-Elementary.is in
    let many : length c.as_slice.result.now ≡ length m.tasks = ap length (c.as_slice.ensures ∙ ap (λ (n : Model). n.tasks) c.model.ensures.same) in
    omega (arith, slice_get_within m.tasks c.in-Elementary.number i.task i.listed, many)

pub unreachable-requires-in_default : goal.unreachable-requires-in_default
unreachable-requires-in_default c =
    let m = c.args.flat.now.model in
    let t = c.index-as_slice-number.result in
    let made : IsMadeEnd m c.args.instance c.args.port c.args.point = made_end m c.requires.0 _ c.args.instance c.args.port c.args.point c.requires.1 refl in
    let i : IsTaskOutput m c.args.instance c.args.port c.args.point c.in-Elementary.number =
    task_output m c.args.instance c.leaf_with.result c.leaf-leaf.result.now c.args.port c.args.point c.in-Elementary.number c.model.ensures.flat.sound made c.leaf_with.ensures c.leaf-leaf.ensures c.in-Elementary.is in
    let same : c.as_slice.result.now ≡ m.tasks = c.as_slice.ensures ∙ ap (λ (n : Model). n.tasks) c.model.ensures.same in
    let o : IsOutputOf m c.args.instance c.args.port c.args.point t = output_of m c.args.instance c.args.port c.args.point c.in-Elementary.number t c.as_slice.result.now same c.index-as_slice-number.is i in
    let none : slice_get (outputs_of t) c.args.port ≡ None = sym c.output.ensures ∙ ap (λ (o : Option (Bor Port)). option_copied o) c.in_default.is in
    some_there (outputs_of t) c.args.port c.args.point o.point none

pub push_port-requires : goal.push_port-requires
push_port-requires c =
    let m = c.args.flat.now.model in
    let t = c.index-as_slice-number.result in
    let made : IsMadeEnd m c.args.instance c.args.port c.args.point = made_end m c.requires.0 _ c.args.instance c.args.port c.args.point c.requires.1 refl in
    let i : IsTaskOutput m c.args.instance c.args.port c.args.point c.in-Elementary.number =
    task_output m c.args.instance c.leaf_with.result c.leaf-leaf.result.now c.args.port c.args.point c.in-Elementary.number c.model.ensures.flat.sound made c.leaf_with.ensures c.leaf-leaf.ensures c.in-Elementary.is in
    let same : c.as_slice.result.now ≡ m.tasks = c.as_slice.ensures ∙ ap (λ (n : Model). n.tasks) c.model.ensures.same in
    let o : IsOutputOf m c.args.instance c.args.port c.args.point t = output_of m c.args.instance c.args.port c.args.point c.in-Elementary.number t c.as_slice.result.now same c.index-as_slice-number.is i in
    let there : slice_get (outputs_of t) c.args.port ≡ Some c.in-Some.made.now = sym c.output.ensures ∙ ap (λ (o : Option (Bor Port)). option_copied o) c.in-Some.is in
    same_point (outputs_of t) c.args.port c.args.point c.in-Some.made.now o.point there

pub returns : goal.returns
returns c =
    let m = c.args.flat.now.model in
    let t = c.index-as_slice-number.result in
    let made : IsMadeEnd m c.args.instance c.args.port c.args.point = made_end m c.requires.0 _ c.args.instance c.args.port c.args.point c.requires.1 refl in
    let i : IsTaskOutput m c.args.instance c.args.port c.args.point c.in-Elementary.number =
    task_output m c.args.instance c.leaf_with.result c.leaf-leaf.result.now c.args.port c.args.point c.in-Elementary.number c.model.ensures.flat.sound made c.leaf_with.ensures c.leaf-leaf.ensures c.in-Elementary.is in
    let same : c.as_slice.result.now ≡ m.tasks = c.as_slice.ensures ∙ ap (λ (n : Model). n.tasks) c.model.ensures.same in
    let o : IsOutputOf m c.args.instance c.args.port c.args.point t = output_of m c.args.instance c.args.port c.args.point c.in-Elementary.number t c.as_slice.result.now same c.index-as_slice-number.is i in
    let there : slice_get (outputs_of t) c.args.port ≡ Some c.in-Some.made.now = sym c.output.ensures ∙ ap (λ (o : Option (Bor Port)). option_copied o) c.in-Some.is in
    on_ok_weaker c.push_port.result (λ more. more ∙ ap (λ ws. string_bytes c.args.text.now ++ after_blanks ws) (o.words c.in-Some.made.now there)) c.push_port.ensures
