use Rattle.std.proofs.Common.{◌∙◌, sym, Bool, ◌&&◌}
use Rattle.aol_model_types.specs.declared.task.Plain.{Plain}
use Rattle.aol_rules.specs.Names.{part_of_link}
use Rattle.aol_model_types.specs.Rules.{same_hook, hands_up}
use Rattle.aol_rules.proofs.NameGroups.{any_in_front, handed_from_part}
use Rattle.aol_rules.proofs.agree.compound.Graph.is_handed_up.Goals as goal

pub returns-in-Some-links : goal.returns-in-Some-links
returns-in-Some-links c =
    let links = c.args.self.now.compound.now.links in
    let name = c.in-Some.name in
    let finds = c.args.self.now.links c.in-Some-links.index c.in-Some-links.is in
    let same_output : Plain → Bool = λ l. hands_up l && same_hook l.from c.args.from.now in
    let any = any_in_front same_output part_of_link name links c.requires.0 (handed_from_part name c.args.from.now c.in-Some.is) in
    c.is_handed_up_in.ensures ∙ rw (c.places.ensures, finds name, c.requires.1) (sym any)
