use Rattle.std.proofs.Common.{length, sym, ◌∙◌, ap}
use Rattle.std.specs.List.{position}
use Rattle.aol_shape.specs.Lists.{same}
use Rattle.aol_model_types.specs.declared.task.Part.{Part}
use Rattle.aol_flat.proofs.Positions.{place_not_found}
use Rattle.aol_flat.proofs.feed.part_number.Goals as goal

pub returns-in-None : goal.returns-in-None
returns-in-None c =
    ap length c.as_slice-parts.ensures
    ∙ sym (place_not_found (λ (p : Part). same p.name c.args.name.now) c.args.task.now.parts
    (sym (ap (position (λ (p : Part). same p.name c.args.name.now)) c.as_slice-parts.ensures) ∙ (sym c.place_of_part.ensures ∙ c.in-None.is)))
