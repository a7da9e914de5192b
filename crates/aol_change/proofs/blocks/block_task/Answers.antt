use Rattle.std.proofs.Common.{[], sym, ◌∙◌}
use Rattle.aol_model_types.specs.declared.task.Repeated.{Repeated}
use Rattle.aol_change.proofs.BlockMade.{within_moved, limit_is, block_is}
use Rattle.aol_change.proofs.blocks.block_task.Goals as goal

pub returns-in-Ok-clause-made : goal.returns-in-Ok-clause-made
returns-in-Ok-clause-made c =
    block_is c.args.model.now c.args.task.now c.args.block.now c.as_slice.result.now _ c.as_slice-2.result.now c.as_slice.ensures c.task_named-inner.ensures c.as_slice-2.ensures
    c.args.name.now (record { name = c.in_ok-copy.field-0; ins = []; outs = []; space = c.copy-2.result; task = c.in_ok-copy-2.field-0; tilers = []; links = c.new-4.result }) c.fill_block.new.made c.in_ok-copy.ensures c.copy-2.ensures c.in_ok-copy-2.ensures c.new-4.ensures c.in-Ok.ensures.made

pub returns-in-Ok-clause-limit : goal.returns-in-Ok-clause-limit
returns-in-Ok-clause-limit c =
    sym (limit_is c.args.model.now c.args.task.now c.args.block.now c.as_slice.result.now _ c.as_slice-2.result.now c.as_slice.ensures c.task_named-inner.ensures c.as_slice-2.ensures) ∙ c.in-Ok.ensures.limit

pub returns-in-Err-clause-limit : goal.returns-in-Err-clause-limit
returns-in-Err-clause-limit c =
    within_moved (Unit {0}) Repeated c.in-Err.error _ _
    (limit_is c.args.model.now c.args.task.now c.args.block.now c.as_slice.result.now _ c.as_slice-2.result.now c.as_slice.ensures c.task_named-inner.ensures c.as_slice-2.ensures) c.in-Err.ensures.limit
