use Rattle.aol_paving.proofs.Rooms.{can_ins, can_outs}
use Rattle.aol_paving.proofs.model.push_levels.Goals as goal

pub outer_task-requires-clause-inputs : goal.outer_task-requires-clause-inputs
outer_task-requires-clause-inputs c =
    can_ins c.args.inner.now.space c.args.args.now.block c.in_ok-space.space c.args.ins.now c.args.outs.now c.in_ok-space.ensures.made c.requires.inputs c.in_ok-made.ensures.limit

pub outer_task-requires-clause-outputs : goal.outer_task-requires-clause-outputs
outer_task-requires-clause-outputs c =
    can_outs c.args.inner.now.space c.args.args.now.block c.in_ok-space.space c.args.ins.now c.args.outs.now c.in_ok-space.ensures.made c.requires.outputs c.in_ok-made.ensures.limit
