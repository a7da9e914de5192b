use Rattle.std.proofs.Common.{◌<◌, ◌^◌, ◌∙◌, sym, ap, subst, length}
use Rattle.aol_model_types.specs.declared.document.Model.{Model}
use Rattle.aol_flat.specs.Instance.{places_of_sizes, port_sizes}
use Rattle.aol_flat.specs.Tasks.{main_outputs}
use Rattle.aol_equiv.proofs.MainLeads.{main_outputs_few}
use Rattle.aol_equiv.proofs.compare.test_main.Goals as goal

pub main_output_spots-requires : goal.main_output_spots-requires
main_output_spots-requires c =
    let P : Model → Type 0 = λ m. length (main_outputs m) < 2 ^ 32 in
    subst P (sym c.model.ensures.same) (main_outputs_few c.args.sides.now.new.now.model c.requires.compared.new_flat.sound)

pub test_outputs-requires-clause-spots : goal.test_outputs-requires-clause-spots
test_outputs-requires-clause-spots c = c.as_slice.ensures.value ∙ (c.in_ok-spots.ensures ∙ ap (λ m. places_of_sizes 0 (port_sizes (main_outputs m))) c.model.ensures.same)
