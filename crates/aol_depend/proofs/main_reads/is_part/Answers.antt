use Rattle.std.proofs.Common.{ap, sym, ◌∙◌, eqb-true}
use Rattle.std.specs.List.{position}
use Rattle.aol_shape.specs.Lists.{same}
use Rattle.aol_model_types.specs.declared.task.Part.{Part}
use Rattle.aol_depend.proofs.MainReads.{place_found}
use Rattle.aol_depend.proofs.main_reads.is_part.Goals as goal

pub returns-in-Some : goal.returns-in-Some
returns-in-Some c equal =
    let test = λ (p : Part). same p.name c.args.name.now in
    place_found test c.args.task.now.parts c.in-Some.number (ap (position test) (sym c.as_slice.ensures) ∙ (sym c.place_of_part.ensures ∙ c.in-Some.is)) ∙ eqb-true c.in-Some.number c.args.k equal
