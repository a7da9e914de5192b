use Rattle.std.proofs.Common.{◌≡◌, ◌<◌, ◌^◌, ◌∙◌, sym, ap, subst, length, arith}
use Rattle.aol_model_types.specs.declared.document.Model.{Model}
use Rattle.aol_flat.specs.Instance.{places_of_sizes, port_sizes}
use Rattle.aol_flat.specs.Laid.{main_input_elements}
use Rattle.aol_flat.specs.Tasks.{main_inputs}
use Rattle.aol_assign.proofs.MainCells.{main_within}
use Rattle.aol_equiv.proofs.Filling.{spot_count}
use Rattle.aol_equiv.proofs.MainLeads.{main_inputs_few}
use Rattle.aol_equiv.proofs.compare.main_input_count.Goals as goal

pub main_input_spots-requires : goal.main_input_spots-requires
main_input_spots-requires c =
    let P : Model → Type 0 = λ m. length (main_inputs m) < 2 ^ 32 in
    subst P (sym c.model.ensures.same) (main_inputs_few c.args.flat.now.model c.model.ensures.flat.sound)

pub overflow_cast-result : goal.overflow_cast-result
overflow_cast-result c =
    let f = c.args.flat.now in
    let count : length c.as_slice-spots.result.now ≡ length (main_input_elements f.model) =
    ap length (c.as_slice-spots.ensures.value ∙ (c.in_ok-spots.ensures ∙ ap (λ m. places_of_sizes 0 (port_sizes (main_inputs m))) c.model.ensures.same)) ∙ spot_count _ (main_inputs f.model) in
    omega (arith, count, c.requires, main_within f c.model.ensures.flat.sound c.model.ensures.flat.laid)

pub returns : goal.returns
returns c =
    let f = c.args.flat.now in
    ap length (c.as_slice-spots.ensures.value ∙ (c.in_ok-spots.ensures ∙ ap (λ m. places_of_sizes 0 (port_sizes (main_inputs m))) c.model.ensures.same)) ∙ spot_count _ (main_inputs f.model)
