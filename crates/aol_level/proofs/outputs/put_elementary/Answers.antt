use Rattle.aol_level.proofs.Putting.{fault_put}
use Rattle.aol_level.proofs.outputs.put_elementary.Goals as goal

pub returns-in-Some-clause-values : goal.returns-in-Some-clause-values
returns-in-Some-clause-values c = λ taken first same.
    fault_put c.args.share.now.values c.put_fault.new.share.values c.args.worker c.args.place c.args.ready.now.number c.args.ready.now.count c.args.task.now c.args.fault c.in-Some.site taken
    c.in-Some.is first c.requires.ready.count c.put_fault.ensures.values
