use Rattle.std.proofs.Common.{inr, sym, ◌∙◌}
use Rattle.aol_assign.proofs.TwiceWalk.{once_there, told_there}
use Rattle.aol_assign.proofs.twice.test_node.Goals as goal

pub returns-then-tested-number : goal.returns-then-tested-number
returns-then-tested-number c node t at listed tested =
    (once_there c.args.from.model.now node t (tested c.args.number t node c.if-tested-number.true listed), tested)

pub returns-in-Some : goal.returns-in-Some
returns-in-Some c node t at listed tested =
    inr (told_there c.args.from.model.now node t c.args.steps.now c.in-Some.found c.in_ok-refusal.field-0 at (sym c.in-Some.is ∙ c.in_ok-found.ensures node t listed) c.in_ok-refusal.ensures)
