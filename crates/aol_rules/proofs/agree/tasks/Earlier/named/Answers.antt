use Rattle.std.proofs.Common.{◌∙◌, ap}
use Rattle.std.specs.Option.{option_copied}
use Rattle.aol_model_types.specs.Rules.{task_name}
use Rattle.aol_rules.proofs.NamePlaces.{member_led}
use Rattle.aol_rules.proofs.agree.tasks.Earlier.named.Goals as goal

pub returns-in-Some : goal.returns-in-Some
returns-in-Some c =
    let leads = c.args.self.now.leads c.in-Some.index.now (ap option_copied c.in-Some.is) in
    c.member.ensures ∙ member_led task_name c.args.self.now.tasks.now c.in-Some.index.now.places leads c.args.name.now
