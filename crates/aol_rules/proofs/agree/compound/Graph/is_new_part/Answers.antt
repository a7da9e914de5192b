use Rattle.std.proofs.Common.{not, ◌∙◌, ap}
use Rattle.aol_model_types.specs.declared.task.Part.{Part}
use Rattle.aol_rules.proofs.NamePlaces.{front_stands}
use Rattle.aol_rules.proofs.agree.compound.Graph.is_new_part.Goals as goal

pub returns-in-Some : goal.returns-in-Some
returns-in-Some c =
    let finds = c.args.self.now.parts c.in-Some.index c.in-Some.is in
    ap not (c.is_within.ensures ∙ front_stands (λ (p : Part). p.name) c.args.self.now.compound.now.parts c.args.earlier.now c.in-Some.index.places finds c.requires c.args.part.now.name)
