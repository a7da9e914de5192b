use Rattle.std.proofs.Common.{◌∙◌, sym, Bool, Some}
use Rattle.aol_model_types.specs.declared.task.Copied.{Copied}
use Rattle.aol_rules.specs.Names.{part_of_reshape}
use Rattle.aol_model_types.specs.Rules.{same_hook}
use Rattle.aol_rules.proofs.NameGroups.{counted, reshape_at_part}
use Rattle.aol_rules.proofs.agree.compound.Feeds.reshapes_to.Goals as goal

pub returns-in-Some-reshapes : goal.returns-in-Some-reshapes
returns-in-Some-reshapes c =
    let reshapes = c.args.self.now.graph.compound.now.reshapes in
    let name = c.in-Some.name.now in
    let finds = c.args.self.now.graph.reshapes c.in-Some-reshapes.index c.in-Some-reshapes.is in
    let there : Copied → Bool = λ l. same_hook l.to (record { part = Some name; port = c.args.port.now }) in
    let all = counted there part_of_reshape name reshapes (reshape_at_part name c.args.port.now) in
    c.count_ends_at.ensures ∙ rw (c.as_slice-reshapes.ensures, c.places.ensures, finds name, c.in-Some.is) (sym all)
