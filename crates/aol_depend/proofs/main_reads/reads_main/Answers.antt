use Rattle.std.proofs.Common.{ap, ◌∙◌, slice_get}
use Rattle.aol_depend.proofs.MainReads.{leaf_reads_main}
use Rattle.aol_depend.proofs.main_reads.reads_main.Goals as goal

pub returns : goal.returns
returns c done =
    leaf_reads_main c.args.flat.now c.task_of.ensures.flat c.args.leaf c.leaf-row.result.now c.leaf_spot-node.result c.in-Elementary.field-0 c.task_of.result.now c.leaf-row.ensures c.in-Elementary.is c.leaf_spot-node.ensures c.task_of.ensures.task
    (λ k p at. c.all_lead_to_main.ensures done k p (ap (λ ports. slice_get ports k) c.inputs_of.ensures ∙ at))
