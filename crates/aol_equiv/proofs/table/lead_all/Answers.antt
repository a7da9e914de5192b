use Rattle.std.proofs.Common.{◌≡◌, ◌<◌, ◌^◌, ◌∙◌, sym, ap, subst, length, List}
use Rattle.aol_flat.specs.Instance.{places_of_sizes, port_sizes}
use Rattle.aol_flat.specs.Tasks.{main_inputs}
use Rattle.aol_model_types.specs.declared.document.Model.{Model}
use Rattle.aol_equiv.specs.declared.leads.Lead.{Lead}
use Rattle.aol_equiv.specs.Table.{AreLeads}
use Rattle.aol_equiv.proofs.MainLeads.{main_inputs_few, inputs_within, all_led}
use Rattle.aol_equiv.proofs.table.lead_all.Goals as goal

pub main_input_spots-requires : goal.main_input_spots-requires
main_input_spots-requires c =
    let P : Model → Type 0 = λ m. length (main_inputs m) < 2 ^ 32 in
    subst P (sym c.model.ensures.same) (main_inputs_few c.args.flat.now.model c.requires.flat.sound)

pub put_inputs-requires : goal.put_inputs-requires
put_inputs-requires c =
    let f = c.args.flat.now in
    let are : c.as_slice.result.now ≡ places_of_sizes 0 (port_sizes (main_inputs f.model)) = c.as_slice.ensures.value ∙ (c.in_ok-spots.ensures ∙ ap (λ m. places_of_sizes 0 (port_sizes (main_inputs m))) c.model.ensures.same) in
    inputs_within f c.requires.flat.sound c.requires.flat.laid c.requires.single c.as_slice.result.now are c.lead_leaves.new.leads c.in_ok-lead_leaves.ensures.many

pub returns : goal.returns
returns c =
    let f = c.args.flat.now in
    let are : c.as_slice.result.now ≡ places_of_sizes 0 (port_sizes (main_inputs f.model)) = c.as_slice.ensures.value ∙ (c.in_ok-spots.ensures ∙ ap (λ m. places_of_sizes 0 (port_sizes (main_inputs m))) c.model.ensures.same) in
    let P : List Lead → Type 0 = λ ls. AreLeads f ls in
    subst P (sym c.put_inputs.ensures) (all_led f c.requires.flat.sound c.requires.flat.laid c.requires.single c.as_slice.result.now are c.lead_leaves.new.leads c.in_ok-lead_leaves.ensures)
