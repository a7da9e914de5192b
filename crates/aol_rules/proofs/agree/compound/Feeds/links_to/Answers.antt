use Rattle.std.proofs.Common.{◌∙◌, sym, Bool, Some}
use Rattle.aol_model_types.specs.declared.task.Plain.{Plain}
use Rattle.aol_rules.specs.Names.{part_of_link}
use Rattle.aol_model_types.specs.Rules.{same_hook}
use Rattle.aol_rules.proofs.NameGroups.{counted, link_at_part}
use Rattle.aol_rules.proofs.agree.compound.Feeds.links_to.Goals as goal

pub returns-in-Some-links : goal.returns-in-Some-links
returns-in-Some-links c =
    let links = c.args.self.now.graph.compound.now.links in
    let name = c.in-Some.name.now in
    let finds = c.args.self.now.graph.links c.in-Some-links.index c.in-Some-links.is in
    let there : Plain → Bool = λ l. same_hook l.to (record { part = Some name; port = c.args.port.now }) in
    let all = counted there part_of_link name links (link_at_part name c.args.port.now) in
    c.count_ends_at.ensures ∙ rw (c.as_slice-links.ensures, c.places.ensures, finds name, c.in-Some.is) (sym all)
