use Rattle.std.proofs.Common.{◌≡◌, ◌<◌, ◌∙◌, [], sym, ap, length, get_or, slice_get, Some, arith}
use Rattle.aol_flat.specs.Instance.{places_of_sizes, port_sizes}
use Rattle.aol_flat.specs.Laid.{main_input_elements, main_output_elements}
use Rattle.aol_flat.specs.Tasks.{main_outputs}
use Rattle.aol_assign.specs.Holes.{cells_from}
use Rattle.aol_assign.proofs.MainCells.{main_within}
use Rattle.aol_equiv.proofs.Filling.{spot_count}
use Rattle.aol_equiv.proofs.Keeping.{main_known, main_kept, main_lost, spot_got}
use Rattle.aol_equiv.proofs.Spotting.{cell_count}
use Rattle.aol_equiv.proofs.compare.test_outputs.Goals as goal

pub overflow_cast-spots : goal.overflow_cast-spots
overflow_cast-spots c =
    let s = c.args.sides.now in
    let f = s.new.now in
    let count : length c.args.spots.now ≡ length (main_output_elements f.model) = ap length c.requires.spots ∙ spot_count [] (main_outputs f.model) in
    omega (arith, count, c.requires.few, main_within f c.requires.compared.new_flat.sound c.requires.compared.new_flat.laid)

pub cells_after-requires : goal.cells_after-requires
cells_after-requires c =
    let s = c.args.sides.now in
    let f = s.new.now in
    let count : length c.args.spots.now ≡ length (main_output_elements f.model) = ap length c.requires.spots ∙ spot_count [] (main_outputs f.model) in
    omega (arith, count, c.requires.few, c.requires.inputs, main_within f c.requires.compared.new_flat.sound c.requires.compared.new_flat.laid)

pub first_lost-requires-clause-few : goal.first_lost-requires-clause-few
first_lost-requires-clause-few c =
    let s = c.args.sides.now in
    let f = s.new.now in
    let count : length c.args.spots.now ≡ length (main_output_elements f.model) = ap length c.requires.spots ∙ spot_count [] (main_outputs f.model) in
    let many = ap length (c.as_slice-reads.ensures.value ∙ c.in_ok-cells.ensures) in
    omega (arith, many, cell_count c.args.inputs (length c.args.spots.now), count, c.requires.few, main_within f c.requires.compared.new_flat.sound c.requires.compared.new_flat.laid)

pub first_lost-requires-clause-ended : goal.first_lost-requires-clause-ended
first_lost-requires-clause-ended c =
    let s = c.args.sides.now in
    let f = s.new.now in
    let count : length c.args.spots.now ≡ length (main_output_elements f.model) = ap length c.requires.spots ∙ spot_count [] (main_outputs f.model) in
    let are : c.as_slice-reads.result.now ≡ cells_from (length (main_input_elements f.model)) (length (main_output_elements f.model)) =
    c.as_slice-reads.ensures.value ∙ (c.in_ok-cells.ensures ∙ (ap (λ n. cells_from n (length c.args.spots.now)) c.requires.inputs ∙ ap (cells_from (length (main_input_elements f.model))) count)) in
    main_known s c.requires.compared c.as_slice-reads.result.now are

pub returns-in-None : goal.returns-in-None
returns-in-None c =
    let s = c.args.sides.now in
    let f = s.new.now in
    let count : length c.args.spots.now ≡ length (main_output_elements f.model) = ap length c.requires.spots ∙ spot_count [] (main_outputs f.model) in
    let are : c.as_slice-reads.result.now ≡ cells_from (length (main_input_elements f.model)) (length (main_output_elements f.model)) =
    c.as_slice-reads.ensures.value ∙ (c.in_ok-cells.ensures ∙ (ap (λ n. cells_from n (length c.args.spots.now)) c.requires.inputs ∙ ap (cells_from (length (main_input_elements f.model))) count)) in
    main_kept s c.requires.compared c.as_slice-reads.result.now are c.requires.kept c.in-None.ensures

pub bounds-spots-lost : goal.bounds-spots-lost
bounds-spots-lost c =
    let many = ap length (c.as_slice-reads.ensures.value ∙ c.in_ok-cells.ensures) in
    omega (arith, many, cell_count c.args.inputs (length c.args.spots.now), c.in-Some.ensures.inside)

pub bounds-spots-lost-in-Some : goal.bounds-spots-lost-in-Some
bounds-spots-lost-in-Some c =
    let many = ap length (c.as_slice-reads.ensures.value ∙ c.in_ok-cells.ensures) in
    omega (arith, many, cell_count c.args.inputs (length c.args.spots.now), c.in-Some.ensures.inside)

pub returns : goal.returns
returns c =
    let s = c.args.sides.now in
    let f = s.new.now in
    let count : length c.args.spots.now ≡ length (main_output_elements f.model) = ap length c.requires.spots ∙ spot_count [] (main_outputs f.model) in
    let are : c.as_slice-reads.result.now ≡ cells_from (length (main_input_elements f.model)) (length (main_output_elements f.model)) =
    c.as_slice-reads.ensures.value ∙ (c.in_ok-cells.ensures ∙ (ap (λ n. cells_from n (length c.args.spots.now)) c.requires.inputs ∙ ap (cells_from (length (main_input_elements f.model))) count)) in
    let many = ap length (c.as_slice-reads.ensures.value ∙ c.in_ok-cells.ensures) in
    let under : c.in-Some.lost < length c.args.spots.now = omega (arith, many, cell_count c.args.inputs (length c.args.spots.now), c.in-Some.ensures.inside) in
    let spot = get_or c.args.spots.now c.in-Some.lost (0, 0) in
    let place : slice_get (places_of_sizes 0 (port_sizes (main_outputs f.model))) c.in-Some.lost ≡ Some (spot.0, spot.1) = ap (λ ps. slice_get ps c.in-Some.lost) (sym c.requires.spots) ∙ spot_got c.args.spots.now c.in-Some.lost under in
    main_lost s c.requires.compared c.as_slice-reads.result.now are c.requires.kept c.in-Some.lost spot.0 spot.1 c.in-Some.required c.in-Some.ensures place
