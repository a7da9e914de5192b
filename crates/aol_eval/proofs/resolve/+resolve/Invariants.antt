use Rattle.std.proofs.Common.{◌≡◌, map, take}
use Rattle.aol_eval.specs.Resolved.{plan_of}
use Rattle.aol_expr_tree.specs.BoundNames.{names_of}
use Rattle.aol_eval.proofs.Plans.{plan_at}
use Rattle.aol_eval.proofs.resolve.+resolve.Given as goal

abbrev pub invariant-steps_of-loop-node : goal.invariant-steps_of-loop-node
invariant-steps_of-loop-node l = map plan_of l.steps ≡ map (plan_at l.ins (names_of l.bound)) (take l.node-index l.node-items)
