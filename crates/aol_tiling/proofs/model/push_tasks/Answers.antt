use Rattle.aol_tiling.proofs.Old.{can_block_all}
use Rattle.aol_tiling.proofs.model.push_tasks.Goals as goal

pub blocks_task-requires : goal.blocks_task-requires
blocks_task-requires c =
    can_block_all c.args.model.now c.args.task.now c.args.outer.now c.args.block.now c.requires.sound c.requires.found c.requires.rank c.as_slice-entries.ensures.limits c.in_ok-made.ensures.limit
