use Rattle.std.proofs.Common.{rules, ◌<◌, ◌∙◌, ap, sym, arith, Ok}
use Rattle.aol_eval.proofs.LaneSteps.{on_true-map}
use Rattle.aol_eval.proofs.lanes.fill_on.Goals as goal

pub returns-in-Some : goal.returns-in-Some
returns-in-Some c =
    on_true-map c.fill_line.result
    (λ filled i below. let few : i < 128 = first_of (omega arith, search (rules, arith), grind arith) in c.in-Some.ensures c.args.nums.now i few ∙ ap Ok (sym (filled i below)))
    c.fill_line.ensures
