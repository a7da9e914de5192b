use Rattle.std.proofs.Common.{◌∙◌}
use Rattle.aol_model_types.specs.declared.task.Part.{Part}
use Rattle.aol_rules.proofs.NamePlaces.{member_found}
use Rattle.aol_rules.proofs.agree.compound.Graph.part_named.Goals as goal

pub returns-in-Some : goal.returns-in-Some
returns-in-Some c =
    let finds = c.args.self.now.parts c.in-Some.index c.in-Some.is in
    c.member.ensures ∙ rw c.as_slice-parts.ensures (member_found (λ (p : Part). p.name) c.args.self.now.compound.now.parts c.in-Some.index.places finds c.args.name.now)
