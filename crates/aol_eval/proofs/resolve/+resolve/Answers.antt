use Rattle.std.proofs.Common.{map, ap, ◌∙◌}
use Rattle.aol_eval.specs.Resolved.{plan_of}
use Rattle.aol_expr_tree.specs.BoundNames.{names_of}
use Rattle.aol_expr_tree.proofs.Nodes.{mapped-more}
use Rattle.aol_eval.proofs.Plans.{plan_at}
use Rattle.aol_eval.proofs.resolve.+resolve.Goals as goal

pub steps_of-loop-node-preserved : goal.steps_of-loop-node-preserved
steps_of-loop-node-preserved t c =
    ap (map plan_of) c.in_ok-push.ensures.ok
    ∙ mapped-more plan_of (plan_at c.args.ins.now (names_of c.args.bound.now)) c.loop-node.steps c.as_slice-node-items.result.now c.loop-node.node-index c.in_ok-step_of.field-0 c.node-item.result
    c.loop-node.invariant c.loop-node-test.true c.node-item.is c.in_ok-step_of.ensures
