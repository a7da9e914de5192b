use Rattle.std.proofs.Common.{◌≡◌, ◌||◌, true, false, sym, ◌∙◌, ap}
use Rattle.std.specs.List.{list_any}
use Rattle.aol_shape.specs.Lists.{same}
use Rattle.aol_model_types.specs.Rules.{task_name}
use Rattle.aol_change.specs.Change.{is_taken}
use Rattle.aol_change.proofs.Taken.{any_of_both}
use Rattle.aol_change.proofs.names.is_taken.Goals as goal

pub returns-then-is_task : goal.returns-then-is_task
returns-then-is_task c =
    let here : list_any (λ t. same (task_name t) c.args.name.now) c.args.tasks.now ≡ true = sym c.is_task.ensures ∙ c.if-is_task.true in
    c.if-is_task.true
    ∙ (sym (ap (λ b. b || is_taken c.args.others.now c.args.name.now) here) ∙ any_of_both c.args.tasks.now c.args.others.now c.args.name.now)

pub returns-else-is_task : goal.returns-else-is_task
returns-else-is_task c =
    let here : list_any (λ t. same (task_name t) c.args.name.now) c.args.tasks.now ≡ false = sym c.is_task.ensures ∙ c.if-is_task.false in
    c.is_other.ensures
    ∙ (sym (ap (λ b. b || is_taken c.args.others.now c.args.name.now) here) ∙ any_of_both c.args.tasks.now c.args.others.now c.args.name.now)
