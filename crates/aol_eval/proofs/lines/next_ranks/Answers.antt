use Rattle.std.proofs.Common.{◌+◌, ◌*◌, ◌∙◌, ap}
use Rattle.aol_eval.proofs.LineSteps.{leads_to}
use Rattle.aol_eval.proofs.lines.next_ranks.Goals as goal

pub returns : goal.returns
returns c =
    let step_is = c.in_ok-step.ensures ∙ ap (λ m. c.args.ranks.step * c.args.entry + m) c.step_of.ensures in
    leads_to c.args.ranks (record { first = c.in_ok-first-2.first; step = c.in_ok-step.step }) c.args.line c.args.entry c.args.count c.in_ok-first.first c.in_ok-first.ensures c.in_ok-first-2.ensures step_is
