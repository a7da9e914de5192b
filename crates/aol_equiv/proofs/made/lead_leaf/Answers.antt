use Rattle.aol_equiv.proofs.RowKinds.{task_within}
use Rattle.aol_equiv.proofs.made.lead_leaf.Goals as goal

pub lead_run_leaf-requires-clause-task : goal.lead_run_leaf-requires-clause-task
lead_run_leaf-requires-clause-task c = task_within c.args.flat.now.model c.requires.flat.sound c.args.leaf c.leaf.result.now c.leaf.ensures c.in-Elementary.task c.in-Elementary.is
