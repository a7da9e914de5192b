use Rattle.aol_flat.proofs.Counting.{counted}
use Rattle.aol_flat.proofs.counts.Counts.add.Goals as goal

pub returns-clause-counted : goal.returns-clause-counted
returns-clause-counted c = counted
    c.args.self.now
    (record { nodes = c.saturating_add-self.result; walk = c.saturating_add-self-2.result; work = c.saturating_add-self-3.result })
    c.args.task.now c.args.depth c.args.instances c.passed.result
    c.own_walk.result c.own_work.result c.saturating_mul.result c.saturating_mul-2.result
    c.saturating_add-self.ensures
    c.own_walk.ensures c.saturating_mul.ensures c.saturating_add-self-2.ensures
    c.own_work.ensures c.saturating_mul-2.ensures c.saturating_add-self-3.ensures
    c.passed.ensures
