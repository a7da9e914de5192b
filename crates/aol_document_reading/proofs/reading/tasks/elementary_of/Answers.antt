use Rattle.aol_document_reading.proofs.Tasks.{elementary_kept}
use Rattle.aol_document_reading.proofs.reading.tasks.elementary_of.Goals as goal

pub returns-clause-types : goal.returns-clause-types
returns-clause-types c = rw c.in_ok-task.ensures.task (elementary_kept c.in_ok-head.head.0 c.in_ok-head.head.1.items c.in_ok-head.head.2.items c.in_ok-head.ensures.name c.in_ok-head.ensures.ins.0 c.in_ok-head.ensures.ins.1 c.in_ok-head.ensures.outs.0 c.in_ok-head.ensures.outs.1 c.in_ok-head.ensures.filled)
