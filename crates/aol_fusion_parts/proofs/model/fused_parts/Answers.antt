use Rattle.aol_model_types.specs.declared.task.Task.TheVariants as tasks
use Rattle.aol_fusion_parts.proofs.Told.{part_found}
use Rattle.aol_fusion_parts.proofs.model.fused_parts.Goals as goal

pub fused_repeated-requires : goal.fused_repeated-requires
fused_repeated-requires c = record {
  sound = c.requires.sound;
  compound = c.requires.found;
  one = part_found c.args.model.now c.as_slice-tasks.result.now c.args.compound.now c.args.args.now.first c.in-Some-Repeated.field-0.now (tasks.Repeated c.in-Some-Repeated.one) c.as_slice-tasks.ensures
      c.in-Some-Repeated.ensures c.in-Some-Repeated.field-0-is;
  two = part_found c.args.model.now c.as_slice-tasks.result.now c.args.compound.now c.args.args.now.second c.in-Some-Repeated-task_of_part.field-0.now (tasks.Repeated c.in-Some-Repeated-task_of_part.two) c.as_slice-tasks.ensures
      c.in-Some-Repeated-task_of_part.ensures c.in-Some-Repeated-task_of_part.field-0-is;
}
