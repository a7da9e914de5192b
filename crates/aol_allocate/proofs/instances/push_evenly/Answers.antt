use Rattle.aol_allocate.specs.Placement.{even_worker}
use Rattle.aol_allocate.proofs.AllInstances.{evenly_more}
use Rattle.aol_allocate.proofs.instances.push_evenly.Goals as goal

pub loop-rank-preserved : goal.loop-rank-preserved
loop-rank-preserved c =
    evenly_more (even_worker c.args.workers c.args.count) c.args.of_instance.now.items c.loop-rank.of_instance.items c.push.new.self.items c.loop-rank.rank c.worker_at.result
    c.loop-rank.invariant c.worker_at.ensures c.in_ok-push.ensures.items
