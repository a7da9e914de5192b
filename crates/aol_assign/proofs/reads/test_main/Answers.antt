use Rattle.std.proofs.Common.{◌≡◌, ◌<◌, ◌^◌, [], not, length, Some, None, slice_get, sym, ◌∙◌, ap, arith}
use Rattle.std.specs.Prelude.{sum}
use Rattle.std.specs.List.{position_from}
use Rattle.aol_flat.specs.Instance.{port_sizes, places_of_sizes}
use Rattle.aol_flat.specs.Laid.{main_input_elements, main_output_elements}
use Rattle.aol_flat.specs.Tasks.{main_outputs}
use Rattle.aol_flat.specs.declared.view.Read.{Read}
use Rattle.aol_assign.specs.Holes.{is_given_by, cells_from}
use Rattle.aol_assign.proofs.HolesTold.{main_given, main_hole, hole_under}
use Rattle.aol_assign.proofs.MainCells.{element_count, main_within, main_exist, main_zip, main_ports_few}
use Rattle.aol_assign.proofs.reads.test_main.Goals as goal

pub first_bare-requires-clause-within : goal.first_bare-requires-clause-within
first_bare-requires-clause-within c =
    let f = c.args.flat.now in
    let t = c.requires.tested in
    let sizes : c.as_slice.result.now ≡ port_sizes (main_outputs f.model) = c.as_slice.ensures.value ∙ (c.in_ok-sizes.ensures ∙ ap (λ m. port_sizes (main_outputs m)) c.model.ensures.same) in
    let count : c.total.result ≡ length (main_output_elements f.model) = c.total.ensures ∙ (ap sum sizes ∙ sym (element_count [] (main_outputs f.model))) in
    omega (arith, count, t.inputs_are, t.writers.many, main_within f t.flat.sound t.flat.laid)

pub first_bare-requires-clause-few : goal.first_bare-requires-clause-few
first_bare-requires-clause-few c =
    let f = c.args.flat.now in
    let t = c.requires.tested in
    let sizes : c.as_slice.result.now ≡ port_sizes (main_outputs f.model) = c.as_slice.ensures.value ∙ (c.in_ok-sizes.ensures ∙ ap (λ m. port_sizes (main_outputs m)) c.model.ensures.same) in
    let count : c.total.result ≡ length (main_output_elements f.model) = c.total.ensures ∙ (ap sum sizes ∙ sym (element_count [] (main_outputs f.model))) in
    omega (arith, count, t.inputs_are, c.requires.few, main_within f t.flat.sound t.flat.laid)

pub returns-in_default : goal.returns-in_default
returns-in_default c =
    let f = c.args.flat.now in
    let t = c.requires.tested in
    let sizes : c.as_slice.result.now ≡ port_sizes (main_outputs f.model) = c.as_slice.ensures.value ∙ (c.in_ok-sizes.ensures ∙ ap (λ m. port_sizes (main_outputs m)) c.model.ensures.same) in
    let count : c.total.result ≡ length (main_output_elements f.model) = c.total.ensures ∙ (ap sum sizes ∙ sym (element_count [] (main_outputs f.model))) in
    let test = λ (r : Read). not (is_given_by c.args.list.now c.args.inputs r) in
    let none : position_from test 0 (cells_from (length (main_input_elements f.model)) (length (main_output_elements f.model))) ≡ None =
    ap (λ n. position_from test 0 (cells_from (length (main_input_elements f.model)) n)) (sym count)
    ∙ (ap (λ n. position_from test 0 (cells_from n c.total.result)) (sym t.inputs_are) ∙ (sym c.first_bare.ensures ∙ c.in_default.is)) in
    main_given f t.flat.sound t.flat.laid t.single c.args.list.now t.writers c.args.inputs t.inputs_are c.requires.given
    (cells_from (length (main_input_elements f.model)) (length (main_output_elements f.model))) (main_zip f t.flat.sound t.flat.laid) (main_exist f t.flat.sound t.flat.laid) none

pub place_of-port-requires-clause-within : goal.place_of-port-requires-clause-within
place_of-port-requires-clause-within c =
    let total : c.total.result ≡ sum c.as_slice-2.result.now = c.total.ensures ∙ ap sum (c.as_slice.ensures.value ∙ sym c.as_slice-2.ensures.value) in
    let under : c.in-Some.number < c.total.result = hole_under (λ r. not (is_given_by c.args.list.now c.args.inputs r)) c.args.inputs c.total.result c.in-Some.number (sym c.first_bare.ensures ∙ c.in-Some.is) in
    omega (arith, total, under)

pub place_of-port-requires-clause-few : goal.place_of-port-requires-clause-few
place_of-port-requires-clause-few c =
    let f = c.args.flat.now in
    let sizes : c.as_slice-2.result.now ≡ port_sizes (main_outputs f.model) = c.as_slice-2.ensures.value ∙ (c.in_ok-sizes.ensures ∙ ap (λ m. port_sizes (main_outputs m)) c.model.ensures.same) in
    let few : length (port_sizes (main_outputs f.model)) < 2 ^ 32 = main_ports_few f.model c.requires.tested.flat.sound in
    omega (arith, ap length sizes, few)

pub returns : goal.returns
returns c =
    let f = c.args.flat.now in
    let t = c.requires.tested in
    let sizes : c.as_slice.result.now ≡ port_sizes (main_outputs f.model) = c.as_slice.ensures.value ∙ (c.in_ok-sizes.ensures ∙ ap (λ m. port_sizes (main_outputs m)) c.model.ensures.same) in
    let sizes_there : c.as_slice-2.result.now ≡ port_sizes (main_outputs f.model) = c.as_slice-2.ensures.value ∙ (c.in_ok-sizes.ensures ∙ ap (λ m. port_sizes (main_outputs m)) c.model.ensures.same) in
    let count : c.total.result ≡ length (main_output_elements f.model) = c.total.ensures ∙ (ap sum sizes ∙ sym (element_count [] (main_outputs f.model))) in
    let test = λ (r : Read). not (is_given_by c.args.list.now c.args.inputs r) in
    let found : position_from test 0 (cells_from (length (main_input_elements f.model)) (length (main_output_elements f.model))) ≡ Some c.in-Some.number =
    ap (λ n. position_from test 0 (cells_from (length (main_input_elements f.model)) n)) (sym count)
    ∙ (ap (λ n. position_from test 0 (cells_from n c.total.result)) (sym t.inputs_are) ∙ (sym c.first_bare.ensures ∙ c.in-Some.is)) in
    main_hole f t.flat.sound t.flat.laid t.single c.args.list.now t.writers c.args.inputs t.inputs_are c.requires.given
    (cells_from (length (main_input_elements f.model)) (length (main_output_elements f.model))) (main_zip f t.flat.sound t.flat.laid) (main_exist f t.flat.sound t.flat.laid)
    c.in-Some.number c.place_of-port.result.0 c.place_of-port.result.1 found (ap (λ s. slice_get (places_of_sizes 0 s) c.in-Some.number) (sym sizes_there) ∙ c.place_of-port.ensures)
